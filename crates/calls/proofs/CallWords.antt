-- A call that is written as words is read out of them again: three values, one behind another, and the three words in front of them. Assumes nothing.
use Prim.Native.Nat.{ℕ, ◌+◌}
use mathlib.Core.List.{List, [], ◌∷◌, ◌++◌, append_assoc}
use mathlib.Core.Path.{◌≡◌, refl, ap}
use native.Mathlib.Omega.{arith}
use lib.ListN.{length, take, drop, length-append}
use lib.Seq.{drop_at, length-take-le}
use Rattle.values.specs.declared.Value.{Value}
use Rattle.values.specs.Value.{kind_at}
use Rattle.buffers.specs.Memory.{put}
use Rattle.buffers.proofs.Puts.{then}
use Rattle.words.specs.Words.{value_at, words_of}
use Rattle.words.proofs.There.{said}
use Rattle.calls.specs.Table.{builtin_at}
use Rattle.calls.specs.Words.{call_of}

module _ (x y z : Value) (hx : length x.lanes ≡ 16) (hy : length y.lanes ≡ 16) (hz : length z.lanes ≡ 16) where
  -- what is written: the values as one, and the rest in front of them
  all_there : (w : List ℕ) {w1 w2 w3 w4 : List ℕ} (head : List ℕ) → length w ≡ 54 → length head ≡ 3
      → w1 ≡ put w 3 (words_of x) → w2 ≡ put w1 20 (words_of y) → w3 ≡ put w2 37 (words_of z) → w4 ≡ put w3 0 head
      → w4 ≡ head ++ (words_of x ++ (words_of y ++ (words_of z ++ drop 54 w)))
  unfolding put
  all_there w head h hh e1 e2 e3 e4 =
      let l = length-append (words_of x) (words_of y) in
      let m = length-append (words_of x ++ words_of y) (words_of z) in
      let xy = then w 3 {a = 20} (words_of x) (words_of y) (omega arith) e1 (omega arith) e2 in
      let xyz = then w 3 {a = 37} (words_of x ++ words_of y) (words_of z) (omega arith) xy (omega arith) e3 in
      let n : 3 + length (words_of x ++ words_of y ++ words_of z) ≡ 54 = omega arith in
      rw (e4, xyz, hh, n) (simp append_assoc (ap (λ l. head ++ l) (drop_at (take 3 w) _ 3 (length-take-le 3 w (omega arith)))))

  pub call_there : (w : List ℕ) {w1 w2 w3 w4 : List ℕ} (b n t : ℕ) → length w ≡ 54
      → w1 ≡ put w 3 (words_of x) → w2 ≡ put w1 20 (words_of y) → w3 ≡ put w2 37 (words_of z) → w4 ≡ put w3 0 (b ∷ n ∷ t ∷ [])
      → call_of w4 ≡ record { builtin = builtin_at b; count = n; target = kind_at t; a = x; b = y; c = z }
  unfolding call_of
  call_there w {w4 = w4} b n t h e1 e2 e3 e4 =
      let head = b ∷ n ∷ t ∷ [] in
      let e = all_there w head h refl e1 e2 e3 e4 in
      let l = length-append (words_of x) (words_of y) in
      let ax : value_at w4 3 ≡ x = said head (words_of y ++ (words_of z ++ drop 54 w)) x hx e refl in
      let ay : value_at w4 20 ≡ y = said (head ++ words_of x) (words_of z ++ drop 54 w) y hy (rw append_assoc e) (omega arith) in
      let az : value_at w4 37 ≡ z = said (head ++ (words_of x ++ words_of y)) (drop 54 w) z hz (simp append_assoc e) (omega arith) in
      rw (ax, ay, az, e)
