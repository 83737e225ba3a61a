-- Four tests joined to the left are the test of each of the first n of a list of four: by n. Assumes nothing.
use Prim.Native.Nat.{ℕ, zero, suc}
use mathlib.Core.Bool.{◌&&◌, ◌||◌, and_assoc, and-true, or-true, or-false}
use mathlib.Core.List.{List, [], ◌∷◌}
use mathlib.Core.Path.{◌≡◌}
use native.Mathlib.Omega.{arith}
use borrow.Author.Tests.{le-ltb}
use lib.Dec.{eqb, ltb}
use lib.ListN.{length, take, get_or}
use lib.Seq.{take-nil}
use Rattle.values.specs.Value.{every}
use borrow.Author.Rules.{rules}
use Rattle.arms.proofs.logical.each_is.Goals as goal

each_of : (v n a b c d : ℕ) → (eqb a v || ltb n 1) && (eqb b v || ltb n 2) && (eqb c v || ltb n 3) && (eqb d v || ltb n 4) ≡ every (λ y. eqb y v) (take n (a ∷ b ∷ c ∷ d ∷ []))
each_of v zero a b c d = simp or-true
each_of v (suc zero) a b c d = simp (or-true, or-false, and-true)
each_of v (suc (suc zero)) a b c d = simp (or-true, or-false, and-true)
each_of v (suc (suc (suc zero))) a b c d = simp (or-true, or-false, and-true, and_assoc)
each_of v (suc (suc (suc (suc n)))) a b c d =
    let m = suc (suc (suc (suc n))) in
    rw (le-ltb m 1 (omega arith), le-ltb m 2 (omega arith), le-ltb m 3 (omega arith), le-ltb m 4 (omega arith), take-nil n) (simp (or-false, and-true, and_assoc))

four_each : (v n : ℕ) (x : List ℕ) → length x ≡ 4
    → (eqb (get_or x 0 0) v || ltb n 1) && (eqb (get_or x 1 0) v || ltb n 2) && (eqb (get_or x 2 0) v || ltb n 3) && (eqb (get_or x 3 0) v || ltb n 4) ≡ every (λ y. eqb y v) (take n x)
four_each v n (a ∷ b ∷ c ∷ d ∷ []) l = each_of v n a b c d
four_each v n (a ∷ b ∷ c ∷ d ∷ e ∷ r) l = absurd (omega arith)
four_each v n [] l = absurd (omega arith)
four_each v n (a ∷ []) l = absurd (omega arith)
four_each v n (a ∷ b ∷ []) l = absurd (omega arith)
four_each v n (a ∷ b ∷ c ∷ []) l = absurd (omega arith)

pub returns : goal.returns
returns c = let len : length c.args.x ≡ 4 = search rules in four_each c.args.v c.args.n c.args.x len
