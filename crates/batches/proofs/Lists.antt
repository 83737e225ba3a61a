-- The results after i turns: those of the first i calls, and the others as they were found. By induction on the calls. Assumes nothing.
use mathlib.Core.Path.{◌≡◌, refl, sym, ◌∙◌, ap}
use Prim.Native.Nat.{ℕ, zero, suc, ◌<◌, ◌≤◌}
use mathlib.Core.Bool.{true}
use mathlib.Core.List.{List, [], ◌∷◌, ◌++◌, map}
use native.Mathlib.Nat.{le_of_suc-le-suc}
use native.Mathlib.Omega.{arith}
use lib.Dec.{ltb}
use lib.ListN.{length, get_or, set, take, drop}
use lib.Seq.{take-length}
use Rattle.readings.specs.declared.Reading.{Reading}
use Rattle.calls.specs.declared.Call.{Call}
use Rattle.builtins.specs.declared.Answer.{Answer}
use Rattle.builtins.specs.Fold.{fold_in}
use Rattle.materials.specs.Materials.{results_of}
use Rattle.materials.proofs.Laws.{in_room}

module _ {X Y : Type 0} (f : X → Y) where
  abbrev pub done : List X → List Y → ℕ → List Y
  done ys xs i = map f (take i ys) ++ drop i xs

  pub done_step : (ys : List X) (xs : List Y) (i : ℕ) (d : X) → i < length ys → length ys ≤ length xs → set (done ys xs i) i (f (get_or ys i d)) ≡ done ys xs (suc i)
  done_step [] xs i d h l = absurd (omega arith)
  done_step (y ∷ ys) [] i d h l = absurd (omega arith)
  done_step (y ∷ ys) (x ∷ xs) zero d h l = refl
  done_step (y ∷ ys) (x ∷ xs) (suc i) d h l = ap (λ (zs : List Y). f y ∷ zs) (done_step ys xs i d (le_of_suc-le-suc h) (le_of_suc-le-suc l))

  pub done_length : (ys : List X) (xs : List Y) (i : ℕ) → i ≤ length ys → length ys ≤ length xs → length (done ys xs i) ≡ length xs
  done_length ys xs zero h l = refl
  done_length [] xs (suc i) h l = absurd (omega arith)
  done_length (y ∷ ys) [] (suc i) h l = absurd (omega arith)
  done_length (y ∷ ys) (x ∷ xs) (suc i) h l = ap suc (done_length ys xs i (le_of_suc-le-suc h) (le_of_suc-le-suc l))

module _ (r : Reading) (calls : List Call) (found : List Answer) where
  pub all_done : length calls ≤ length found → done (fold_in r) calls found (length calls) ≡ results_of r calls found
  all_done h = ap (λ (l : List Call). map (fold_in r) l ++ drop (length calls) found) (take-length calls) ∙ sym (in_room r calls found h)

  pub as_found : ltb (length found) (length calls) ≡ true → found ≡ results_of r calls found
  unfolding results_of
  as_found t = rw t
