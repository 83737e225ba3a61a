-- min and max are one lane or the other, by the scalar. Assumes nothing.
use Rattle.std.proofs.Common.{◌≡◌, ℕ, refl}
use Rattle.values.specs.declared.Scalar.{Scalar}
use Rattle.values.specs.declared.Scalar.TheVariants.{Boolean, I32, U32, F32, F16}
use Rattle.limits.specs.Limits.{max_lane, min_lane}
use Rattle.limits.specs.Program.{below_of, other_of}

pub max_is : (s : Scalar) (x y : ℕ) → other_of s (below_of s x y) x y ≡ max_lane s x y
max_is Boolean x y = refl
max_is I32 x y = refl
max_is U32 x y = refl
max_is F32 x y = refl
max_is F16 x y = refl

pub min_is : (s : Scalar) (x y : ℕ) → other_of s (below_of s y x) x y ≡ min_lane s x y
min_is Boolean x y = refl
min_is I32 x y = refl
min_is U32 x y = refl
min_is F32 x y = refl
min_is F16 x y = refl
