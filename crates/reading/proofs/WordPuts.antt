-- The words of a value, put part by part: the empty value's first, then the lanes that are found, then the type's place. A write over a write changes what it covers. Assumes nothing.
use Prim.Native.Nat.{ℕ, zero, suc, ◌+◌, ◌-◌, ◌≤◌, ◌<◌}
use mathlib.Core.List.{List, [], ◌∷◌, ◌++◌, append_assoc}
use mathlib.Core.Path.{◌≡◌, ap, sym, ◌∙◌}
use native.Mathlib.Nat.{sub-zero, zero-sub, suc-sub-suc}
use native.Mathlib.Omega.{arith}
use lib.ListN.{length, take, drop, set, replicate, length-append, length-drop, length-set, length-replicate}
use lib.Seq.{take_at, drop-append-add, drop-append-le, drop-length, length-take-le}
use Rattle.values.specs.Value.{kind_at, value, empty_value}
use Rattle.buffers.specs.Memory.{put}
use Rattle.buffers.proofs.Puts.{put_set, put_cons, put_length}
use Rattle.words.specs.Words.{words_of}
use Rattle.places.proofs.Tables.{own_place}

put_over : (o : List ℕ) (at : ℕ) (xs ys : List ℕ) → at + length xs ≤ length o → length ys ≤ length xs → put (put o at xs) at ys ≡ put o at (ys ++ drop (length ys) xs)
unfolding put
put_over o at xs ys room few =
    let n = length-take-le at o (omega arith) in
    let rest = drop (at + length xs) o in
    let front : take at (take at o ++ xs ++ rest) ≡ take at o = ap (take at) (append_assoc (take at o) xs rest) ∙ take_at (take at o) (xs ++ rest) at n in
    let back : drop (at + length ys) (take at o ++ xs ++ rest) ≡ drop (length ys) xs ++ rest
    = ap (drop (at + length ys)) (append_assoc (take at o) xs rest) ∙ ap (λ (m : ℕ). drop (m + length ys) (take at o ++ (xs ++ rest))) (sym n)
    ∙ drop-append-add (take at o) (xs ++ rest) (length ys) ∙ drop-append-le (length ys) xs rest few in
    let e : length (ys ++ drop (length ys) xs) ≡ length xs = omega (arith, length-append ys (drop (length ys) xs), length-drop (length ys) xs) in
    rw (front, back, e) (simp append_assoc)

drop_zeros : (n m : ℕ) → drop {A = ℕ} n (replicate m 0) ≡ replicate (m - n) 0
drop_zeros zero m = rw sub-zero
drop_zeros (suc n) zero = rw zero-sub
drop_zeros (suc n) (suc m) = rw suc-sub-suc (drop_zeros n m)

module _ (o : List ℕ) (at : ℕ) (l : List ℕ) (room : at + 17 ≤ length o) (few : length l ≤ 16) where
  -- lanes put among the empty value's words
  abbrev lanes : List ℕ
  lanes = l ++ replicate (16 - length l) 0

  lanes_length : length lanes ≡ 16
  lanes_length = omega (arith, length-append l (replicate (16 - length l) 0), length-replicate (16 - length l) zero)

  lanes_put : put (put o at (0 ∷ replicate 16 0)) (at + 1) l ≡ put o at (0 ∷ lanes)
  lanes_put =
      let r : at + 1 + 16 ≤ length (set o at 0) = rw length-set (omega arith) in
      ap (λ (x : List ℕ). put x (at + 1) l) (put_cons o at 0 (replicate 16 0) (omega arith)) ∙ put_over (set o at 0) (at + 1) (replicate 16 0) l r few
      ∙ rw (drop_zeros (length l) 16) (sym (put_cons o at 0 lanes (omega arith)))

  -- a value, put
  pub value_put : {p : ℕ} → p < 39 → set (put (put o at (words_of empty_value)) (at + 1) l) at p ≡ put o at (words_of (value (kind_at p) l))
  unfolding value empty_value
  value_put {p} h =
      let n : at + length (0 ∷ lanes) ≤ length o = omega (arith, lanes_length) in
      let i : at < length (put o at (0 ∷ lanes)) = omega (arith, put_length o at (0 ∷ lanes) n) in
      rw (own_place p h) (ap (λ (x : List ℕ). set x at p) lanes_put ∙ put_set (put o at (0 ∷ lanes)) at p i ∙ put_over o at (0 ∷ lanes) (p ∷ []) n (omega arith))

  -- and cleared again
  pub cleared_again : put (put (put o at (words_of empty_value)) (at + 1) l) at (words_of empty_value) ≡ put o at (words_of empty_value)
  unfolding empty_value
  cleared_again =
      let n : at + length (0 ∷ lanes) ≤ length o = omega (arith, lanes_length) in
      let z : drop 17 (0 ∷ lanes) ≡ [] = ap (λ (m : ℕ). drop m lanes) (sym lanes_length) ∙ drop-length lanes in
      ap (λ (x : List ℕ). put x at (words_of empty_value)) lanes_put ∙ put_over o at (0 ∷ lanes) (words_of empty_value) n (omega (arith, lanes_length)) ∙ rw z

-- the lanes, as a caller has them
pub lanes_after : (o : List ℕ) (at : ℕ) (l : List ℕ) {o' o'' m : List ℕ} → o' ≡ put o at (words_of empty_value) → o'' ≡ put o' (at + 1) m → m ≡ l
    → o'' ≡ put (put o at (words_of empty_value)) (at + 1) l
lanes_after o at l ec el em = el ∙ rw (ec, em)
