-- The answers of all calls are those of the first and of the rest, so what a turn of the loop writes comes off the front. Assumes nothing.
use Prim.Native.Nat.{ℕ, zero, suc, ◌+◌, ◌*◌, ◌-◌, ◌<◌, ◌≤◌, min}
use mathlib.Core.List.{List, [], ◌∷◌, ◌++◌, append_assoc}
use mathlib.Core.Path.{◌≡◌, refl, ap, sym, ◌∙◌}
use native.Mathlib.Omega.{arith}
use lib.ListN.{length, take, drop, length-take, length-drop}
use lib.Seq.{drop-drop}
use Rattle.readings.specs.declared.Reading.{Reading}
use Rattle.buffers.specs.Memory.{put}
use Rattle.buffers.proofs.Puts.{put_put, put_length}
use Rattle.calls.specs.Words.{call_of}
use Rattle.builtins.specs.Fold.{fold_in}
use Rattle.materials.specs.Materials.{folded_all}
use Rattle.materials.specs.Words.{call_count, first_calls, answer_words, joined, answers_of}
use Rattle.materials.proofs.One.{answer_36}

-- a part that ends where the list does
take_count : (n : ℕ) (l : List ℕ) → take (length (take n l)) l ≡ take n l
take_count zero l = refl
take_count (suc n) [] = refl
take_count (suc n) (x ∷ l) = ap (λ (m : List ℕ). x ∷ m) (take_count n l)

-- the words of the call at i
pub call_words : (w : List ℕ) (i end : ℕ) → end ≡ i + min 54 (length w - i) → take (end - i) (drop i w) ≡ take 54 (drop i w)
call_words w i end e =
    let d : end - i ≡ length (take 54 (drop i w)) = rw (length-take, length-drop) (omega arith) in
    rw d (take_count 54 (drop i w))

module _ (R : Reading) (w : List ℕ) where
  -- the words of the answers from call k on, of n calls
  abbrev pub rest : ℕ → ℕ → List ℕ
  rest n k = joined (folded_all R (first_calls (n - k) (drop (54 * k) w)))

  abbrev pub answer_at : ℕ → List ℕ
  answer_at k = answer_words (fold_in R (call_of (take 54 (drop (54 * k) w))))

  rest_step : (n k : ℕ) → k < n → rest n k ≡ answer_at k ++ rest n (k + 1)
  unfolding first_calls joined
  rest_step n k h =
      let e : n - k ≡ suc (n - (k + 1)) = omega arith in
      let f : 54 * k + 54 ≡ 54 * (k + 1) = omega arith in
      rw (e, drop-drop 54 (54 * k) w, f)

  pub rest_all : (n : ℕ) → n ≡ call_count (length w) → rest n 0 ≡ answers_of R w
  rest_all n e = let z : n - 0 ≡ call_count (length w) = omega arith in rw z

  pub rest_end : (n : ℕ) → rest n n ≡ []
  unfolding first_calls joined
  rest_end n = let e : n - n ≡ 0 = omega arith in rw e

  -- a turn: the answer stands in the part that was lent
  module _ (o : List ℕ) (n k : ℕ) {ys : List ℕ} (h : k < n) (room : 36 * n ≤ length o) (ey : ys ≡ answer_at k) where
    abbrev after : List ℕ
    after = take (36 * k) o ++ (ys ++ drop 36 (drop (36 * k) o))

    answer_size : length ys ≡ 36
    answer_size = ap length ey ∙ answer_36 R (take 54 (drop (54 * k) w))

    written : after ≡ put o (36 * k) ys
    unfolding put
    written = rw (drop-drop 36 (36 * k) o, answer_size) (sym (append_assoc (take (36 * k) o) ys (drop (36 * k + 36) o)))

    pub turn_length : length after ≡ length o
    turn_length = ap length written ∙ put_length o (36 * k) ys (omega (arith, answer_size))

    pub turn : put o (36 * k) (rest n k) ≡ put after (36 * (k + 1)) (rest n (k + 1))
    turn =
        let e : 36 * k + length ys ≡ 36 * (k + 1) = omega (arith, answer_size) in
        ap (put o (36 * k)) (rest_step n k h ∙ ap (λ (l : List ℕ). l ++ rest n (k + 1)) (sym ey)) ∙ sym (put_put o (36 * k) ys (omega (arith, answer_size)) (rest n (k + 1)))
        ∙ ap (λ (m : List ℕ). put m (36 * k + length ys) (rest n (k + 1))) (sym written) ∙ ap (λ (m : ℕ). put after m (rest n (k + 1))) e
