-- How the program holds sets of types: as numbers, a bit for each place, from 0, which is no type's, to 38. No statement of what a call gives rests on this. Definitions only.
use Rattle.std.specs.Prelude.{ℕ, ◌+◌, ◌*◌, ◌/◌, ◌%◌, ◌^◌, Bool, cond, List, [], ◌∷◌, eqb}
use Rattle.values.specs.declared.Kind.{Kind}
use Rattle.values.specs.declared.Kind.TheVariants.{Empty}
use Rattle.values.specs.Value.{kinds}

-- whether the set has the place
abbrev pub member : ℕ → ℕ → Bool
member set p = eqb (set / 2 ^ p % 2) 1

abbrev pub set_from : (Kind → Bool) → List Kind → ℕ
set_from f [] = 0
set_from f (k ∷ ks) = cond (f k) 1 0 + 2 * set_from f ks

-- the set of what passes a test
unfoldable pub set_of : (Kind → Bool) → ℕ
set_of f = set_from f (Empty ∷ kinds)
