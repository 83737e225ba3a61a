-- The lanes of abs, sign and the counts: 01, "Rules of evaluation". Definitions only.
-- A lane function goes by the scalar. Where 01's table leaves a scalar out, no call comes that far, and the lane stays.
use Rattle.std.specs.Prelude.{ℕ, zero, suc, ◌+◌, ◌-◌, ◌*◌, ◌^◌, min, cond, List, [], ◌∷◌, reverse, ltb, eqb}
use Rattle.half.specs.Format.{Format, f16, f32, hidden, nan, magnitude, negative, signed, is_nan}
use Rattle.values.specs.declared.Scalar.{Scalar}
use Rattle.values.specs.declared.Scalar.TheVariants.{Boolean, I32, U32, F32, F16}
use Rattle.numeric.specs.Parts.{parts}

-- ---- abs, sign, counts

-- the pattern of 1: all ones below the exponent's highest bit
abbrev pub one : Format → ℕ
one f = (2 ^ (f.exponent - 1) - 1) * hidden f

-- "abs of the least i32 is itself"; "abs of a float only clears the sign bit"
abbrev pub abs_lane : Scalar → ℕ → ℕ
abs_lane Boolean x = x
abs_lane I32 x = cond (ltb x 0x8000_0000) x (2 ^ 32 - x)
abs_lane U32 x = x
abs_lane F32 x = magnitude f32 x
abs_lane F16 x = magnitude f16 x

-- "sign: -1, 0, 1; a float zero is returned as it came, NaN gives NaN"
abbrev pub sign_float : Format → ℕ → ℕ
sign_float f x = cond (is_nan f x) (nan f) (cond (eqb (magnitude f x) 0) x (signed f (negative f x) (one f)))

abbrev pub sign_lane : Scalar → ℕ → ℕ
sign_lane Boolean x = x
sign_lane I32 x = cond (ltb x 0x8000_0000) (min x 1) 0xffff_ffff
sign_lane U32 x = min x 1
sign_lane F32 x = sign_float f32 x
sign_lane F16 x = sign_float f16 x

-- the bits of a lane, the lowest first
abbrev pub bits : ℕ → List ℕ
bits x = parts 1 32 x

abbrev pub total : List ℕ → ℕ
total [] = 0
total (b ∷ bs) = b + total bs

-- the zeros before the first 1: one more than n before what follows, or none
abbrev pub under : ℕ → ℕ → ℕ
under zero n = suc n
under (suc b) n = 0

abbrev pub zeros_before : List ℕ → ℕ
zeros_before [] = 0
zeros_before (b ∷ bs) = under b (zeros_before bs)

-- "Counts of 0: 32 leading, 32 trailing, 0 ones."
unfoldable pub leading_lane : ℕ → ℕ
leading_lane x = zeros_before (reverse (bits x))

unfoldable pub ones_lane : ℕ → ℕ
ones_lane x = total (bits x)

unfoldable pub trailing_lane : ℕ → ℕ
trailing_lane x = zeros_before (bits x)
