-- Writes into a part of lent memory, byte by byte copies, and decimal digits written from the last. Assumes nothing.
use Prim.Native.Nat.{ℕ, ◌+◌, ◌-◌}
use mathlib.Core.List.{List, ◌++◌, append_assoc, append-nil}
use mathlib.Core.Path.{◌≡◌, ap, sym, ◌∙◌}
use native.Mathlib.Nat.{zero-add}
use native.Mathlib.Omega.{arith}
use lib.ListN.{length, take, drop, length-drop, drop_of_length-le}
use lib.Seq.{drop-drop, take_all}
use Rattle.buffers.specs.Memory.{put}

-- a write at the start of what stands from `at` on
pub put_part : (o : List ℕ) (at : ℕ) (xs : List ℕ) → take at o ++ put (drop at o) 0 xs ≡ put o at xs
unfolding put
put_part o at xs = ap (λ (l : List ℕ). take at o ++ (xs ++ l)) (ap (λ (k : ℕ). drop k (drop at o)) (zero-add (length xs)) ∙ drop-drop (length xs) at o) ∙ sym (append_assoc (take at o) xs (drop (at + length xs) o))

-- a write into all that stands from `at` on, as the borrow checker gives it back
pub rest_all : (o : List ℕ) (at : ℕ) → take (length o - at) (drop at o) ≡ drop at o
rest_all o at = take_all (length o - at) (drop at o) (omega (arith, length-drop at o))

pub put_rest : (o : List ℕ) (at : ℕ) {ys : List ℕ} (xs : List ℕ) → ys ≡ put (take (length o - at) (drop at o)) 0 xs
    → take at o ++ (ys ++ drop (length o - at) (drop at o)) ≡ put o at xs
put_rest o at xs e =
    rw (drop_of_length-le (drop at o) {i = length o - at} (omega (arith, length-drop at o)), append-nil)
    (ap (λ (l : List ℕ). take at o ++ l) (e ∙ ap (λ (l : List ℕ). put l 0 xs) (rest_all o at)) ∙ put_part o at xs)
