-- What cross and dot make of the program's four lanes is the definition's value: of a well-formed value the cut to 32 bits loses nothing. Assumes nothing.
use Prim.Native.Nat.{ℕ, ◌-◌, min}
use mathlib.Core.Bool.{true}
use mathlib.Core.List.{[], ◌∷◌}
use mathlib.Core.Path.{◌≡◌, ap}
use native.Mathlib.Nat.{mod-eq_of_lt}
use lib.ListN.{get_or, take}
use Rattle.values.specs.declared.Scalar.TheVariants.{F32}
use Rattle.values.specs.declared.Size.TheVariants.{Three}
use Rattle.values.specs.declared.Kind.TheVariants.{One, Vec}
use Rattle.values.specs.declared.Value.{Value}
use Rattle.values.specs.Value.{scalar_of, lane_count, lane, value, well_formed}
use Rattle.values.specs.Program.{low, is_lanes}
use Rattle.values.proofs.Formed.{lane_narrow}
use Rattle.products.specs.Products.{dot_lane}
use Rattle.products.proofs.Summed.{dot_uncut}
use Rattle.builtins.specs.Numeric.{cross_of, dot_of}
use Rattle.arms.specs.Program.{cut_of, cross_four}

uncut : (v : Value) → well_formed v ≡ true → (i : ℕ) → low (lane v i) ≡ lane v i
uncut v w i = mod-eq_of_lt (lane_narrow v w i)

module _ (a b : Value) (fa : well_formed a ≡ true) (fb : well_formed b ≡ true) where
  pub cross_is : a.kind ≡ Vec Three F32 → value a.kind (take (lane_count a.kind) (cross_four (cut_of a) (cut_of b))) ≡ cross_of a b
  unfolding cross_of
  cross_is k = rw (k, uncut a fa 0, uncut a fa 1, uncut a fa 2, uncut b fb 0, uncut b fb 1, uncut b fb 2)

  pub dot_is : is_lanes a.kind ≡ true
      → value (One (scalar_of a.kind)) (dot_lane (scalar_of a.kind) (λ i. get_or (cut_of a) i 0) (λ i. get_or (cut_of b) i 0) (min (lane_count a.kind) 4 - 1) ∷ []) ≡ dot_of a b
  unfolding dot_of
  dot_is is = ap (λ (y : ℕ). value (One (scalar_of a.kind)) (y ∷ [])) (dot_uncut (scalar_of a.kind) a b fa fb is)
