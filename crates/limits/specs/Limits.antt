-- The lanes of min, max, clamp, saturate and step: 01, "Rules of evaluation". Definitions only.
-- A lane function goes by the scalar. Where 01's table leaves a scalar out, no call comes that far, and the lane stays.
use Rattle.std.specs.Prelude.{ℕ, ◌+◌, ◌%◌, ◌^◌, cond, from_bits, nat_lt, to_bits, Float}
use Rattle.std.specs.Float.Ieee as Ieee
use Rattle.std.specs.Float.{binary32}
use Rattle.half.specs.Format.{f16, f32}
use Rattle.half.specs.Convert.{single_of}
use Rattle.values.specs.declared.Scalar.{Scalar}
use Rattle.values.specs.declared.Scalar.TheVariants.{Boolean, I32, U32, F32, F16}
use Rattle.numeric.specs.Numeric.{one}

-- how far an i32 lies above the least
abbrev pub above : ℕ → ℕ
above x = (x + 0x8000_0000) % 2 ^ 32

-- an f32 operation on bits
abbrev pub on_bits : (Float → Float → Float) → ℕ → ℕ → ℕ
on_bits f x y = to_bits binary32 (f (from_bits binary32 x) (from_bits binary32 y))

-- "max: if one is NaN, the other; both NaN, NaN; else the second if the first is below it, otherwise the first." A NaN is below nothing, so only the first is asked for.
abbrev pub max_float : Float → Float → Float
max_float x y = cond (Ieee.is_nan x) y (cond (Ieee.lt x y) y x)

-- "min: the same, but the second if the second is below the first"
abbrev pub min_float : Float → Float → Float
min_float x y = cond (Ieee.is_nan x) y (cond (Ieee.lt y x) y x)

abbrev pub max_lane : Scalar → ℕ → ℕ → ℕ
max_lane Boolean x y = x
max_lane I32 x y = cond (nat_lt (above x) (above y)) y x
max_lane U32 x y = cond (nat_lt x y) y x
max_lane F32 x y = on_bits max_float x y
max_lane F16 x y = x

abbrev pub min_lane : Scalar → ℕ → ℕ → ℕ
min_lane Boolean x y = x
min_lane I32 x y = cond (nat_lt (above y) (above x)) y x
min_lane U32 x y = cond (nat_lt y x) y x
min_lane F32 x y = on_bits min_float x y
min_lane F16 x y = x

-- "clamp(e, low, high) is min(max(e, low), high), even if low exceeds high"
abbrev pub clamp_lane : Scalar → ℕ → ℕ → ℕ → ℕ
clamp_lane s e low high = min_lane s (max_lane s e low) high

-- "saturate is clamp with 0 and 1"
abbrev pub saturate_lane : ℕ → ℕ
saturate_lane e = clamp_lane F32 e 0 (one f32)

-- "step is 1 if edge <= x, else 0, in the argument's type"; each f16 is an f32
abbrev pub step_lane : Scalar → ℕ → ℕ → ℕ
step_lane Boolean edge x = x
step_lane I32 edge x = x
step_lane U32 edge x = x
step_lane F32 edge x = cond (Ieee.le (from_bits binary32 edge) (from_bits binary32 x)) (one f32) 0
step_lane F16 edge x = cond (Ieee.le (from_bits binary32 (single_of edge)) (from_bits binary32 (single_of x))) (one f16) 0
