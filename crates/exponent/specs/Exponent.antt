-- The lanes of frexp and ldexp, as whole numbers: a float's size is counted in units of its format's least value above 0. Definitions only.
use Rattle.std.specs.Prelude.{ℕ, ◌+◌, ◌-◌, ◌*◌, ◌/◌, ◌%◌, ◌^◌, Bool, cond, ◌||◌, ℤ, pos, negsuc, ◌==◌, nat_le, nat_lt}
use Rattle.std.specs.Float.Ieee.{size, up, down}
use Rattle.half.specs.Format.{Format, f16, f32, infinity, nan, magnitude, negative, signed, is_nan, lowest, units, pattern, magnitude_of}
use Rattle.values.specs.declared.Scalar.{Scalar}
use Rattle.values.specs.declared.Scalar.TheVariants.{Boolean, I32, U32, F32, F16}

-- "Zero, infinity and NaN give (x, 0)"
abbrev pub unsplit : Format → ℕ → Bool
unsplit f x = magnitude f x == 0 || nat_le (infinity f) (magnitude f x)

-- "magnitude in [0.5, 1) and i32 exponent, exact, subnormals included": a size of k digits, divided by 2 ^ k. A NaN is worked out.
unfoldable pub fraction : Format → ℕ → ℕ
fraction f x =
    let u = units f (magnitude f x) in
    cond (is_nan f x) (nan f) (cond (unsplit f x) x (signed f (negative f x) (pattern f (u * 2 ^ lowest f / 2 ^ size u))))

-- x is that times 2 ^ (k - lowest): an i32
unfoldable pub exponent : Format → ℕ → ℕ
exponent f x = cond (unsplit f x) 0 ((2 ^ 32 + size (units f (magnitude f x)) - lowest f) % 2 ^ 32)

abbrev pub fraction_lane : Scalar → ℕ → ℕ
fraction_lane Boolean x = x
fraction_lane I32 x = x
fraction_lane U32 x = x
fraction_lane F32 x = fraction f32 x
fraction_lane F16 x = fraction f16 x

abbrev pub exponent_lane : Scalar → ℕ → ℕ
exponent_lane Boolean x = 0
exponent_lane I32 x = 0
exponent_lane U32 x = 0
exponent_lane F32 x = exponent f32 x
exponent_lane F16 x = exponent f16 x

-- an i32 by its bits
abbrev pub integer : ℕ → ℤ
integer n = cond (nat_lt n 0x8000_0000) (pos n) (negsuc (0xffff_ffff - n))

-- "ldexp: x times 2^n, rounded once to nearest, ties to even, overflow to infinity; zero and infinity unchanged"
unfoldable pub ldexp : Format → ℕ → ℤ → ℕ
ldexp f x z =
    let m = magnitude f x in
    cond (is_nan f x) (nan f) (cond (nat_le (infinity f) m) x (signed f (negative f x) (magnitude_of f (units f m * up z) (down z))))

abbrev pub ldexp_lane : ℕ → ℕ → ℕ
ldexp_lane x n = ldexp f32 x (integer n)
