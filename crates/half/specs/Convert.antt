-- From one format to another: 01, "Half conversion: IEEE 754 binary16, nearest, ties to even; overflow to infinity". Definitions only.
use Rattle.std.specs.Prelude.{ℕ, ◌*◌, ◌^◌, cond, ltb}
use Rattle.half.specs.Format.{Format, f16, f32, infinity, nan, magnitude, negative, signed, is_nan, lowest, units, magnitude_of}

-- a magnitude of f that is no NaN, as one of g: an infinity stays one, a finite number is rounded once
unfoldable pub converted_magnitude : Format → Format → ℕ → ℕ
converted_magnitude f g m = cond (ltb m (infinity f)) (magnitude_of g (units f m * 2 ^ lowest g) (2 ^ lowest f)) (infinity g)

-- the sign is kept, and a NaN is worked out anew
unfoldable pub converted : Format → Format → ℕ → ℕ
converted f g n = cond (is_nan f n) (nan g) (signed g (negative f n) (converted_magnitude f g (magnitude f n)))

-- the half of an f32, and the f32 of a half
abbrev pub half_of : ℕ → ℕ
half_of n = converted f32 f16 n

abbrev pub single_of : ℕ → ℕ
single_of n = converted f16 f32 n
