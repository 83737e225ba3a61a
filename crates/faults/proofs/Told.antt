-- The fault of lanes does not look at what they spell, and is what reading them tells. By cases of what reading gives. Assumes nothing.
use Prim.Native.Nat.{ℕ}
use mathlib.Core.Bool.{Bool, true, false, cond}
use mathlib.Core.List.{[], ◌∷◌}
use mathlib.Core.Path.{◌≡◌, refl}
use lib.Dec.{eqb}
use Rattle.values.specs.declared.Kind.{Kind}
use Rattle.spelling.specs.Read.{Scanned, digit_at, count_at, good, before, at_end, wrong, found, reading}
use Rattle.faults.specs.Program.{fault_of, told_of}

pub fault_before : (v : ℕ) (r : Scanned) → fault_of (before v r) ≡ fault_of r
fault_before v (digit_at p) = refl
fault_before v (count_at p) = refl
fault_before v (good l) = refl

pub fault_end : (n d p v : ℕ) → fault_of (at_end n d p v) ≡ fault_of (at_end n d p 0)
fault_end n d p v = by (eqb d 0) (eqb n 0)
  where
    by : (e f : Bool) → fault_of (cond e (cond f (good (v ∷ [])) (count_at p)) (digit_at p)) ≡ fault_of (cond e (cond f (good (0 ∷ [])) (count_at p)) (digit_at p))
    by true true = refl
    by true false = refl
    by false f = refl

pub fault_told : (k : Kind) (r : Scanned) → fault_of r ≡ told_of (reading k r)
unfolding wrong found
fault_told k (digit_at p) = refl
fault_told k (count_at p) = refl
fault_told k (good l) = refl
