-- How the program works out min and max: one lane or the other, by whether one is below the other. Definitions only.
use Rattle.std.specs.Prelude.{ℕ, Bool, false, cond, from_bits, nat_lt, Float}
use Rattle.std.specs.Float.Ieee as Ieee
use Rattle.std.specs.Float.{binary32}
use Rattle.values.specs.declared.Scalar.{Scalar}
use Rattle.values.specs.declared.Scalar.TheVariants.{Boolean, I32, U32, F32, F16}
use Rattle.limits.specs.Limits.{above, on_bits}

-- whether a lane is below another
abbrev pub below_of : Scalar → ℕ → ℕ → Bool
below_of Boolean x y = false
below_of I32 x y = nat_lt (above x) (above y)
below_of U32 x y = nat_lt x y
below_of F32 x y = Ieee.lt (from_bits binary32 x) (from_bits binary32 y)
below_of F16 x y = false

abbrev pub other_float : Bool → Float → Float → Float
other_float second x y = cond (Ieee.is_nan x) y (cond second y x)

-- the second lane where it is said so, or where the first is a NaN
abbrev pub other_of : Scalar → Bool → ℕ → ℕ → ℕ
other_of Boolean second x y = x
other_of I32 second x y = cond second y x
other_of U32 second x y = cond second y x
other_of F32 second x y = on_bits (other_float second) x y
other_of F16 second x y = x
