-- Each result of frexp and ldexp is a lane of its type, so that an answer made of them is well formed. Assumes nothing.
use Rattle.std.proofs.Common.{◌≡◌, ℕ, ◌*◌, ◌%◌, ◌^◌, ◌<◌, Bool, true, false, cond, refl, le_of_eq, lt_of_le_of_lt, mod-lt, arith, lit<}
use Rattle.half.specs.Format.{Format, f16, f32, top, nan, is_nan}
use Rattle.half.proofs.ToNearest.{proper_f32}
use Rattle.half.proofs.Conversion.{nan_below}
use Rattle.values.specs.declared.Scalar.{Scalar}
use Rattle.values.specs.declared.Scalar.TheVariants.{Boolean, I32, U32, F32, F16}
use Rattle.values.specs.Value.{lane_bits}
use Rattle.exponent.specs.Exponent.{unsplit, fraction, exponent, fraction_lane, exponent_lane, integer, ldexp_lane}
use Rattle.exponent.proofs.Cases.{fraction_whole, finite}
use Rattle.exponent.proofs.RoundsOnce.{scaled_below}
use Rattle.exponent.proofs.SplitExact.{Deep, deep_f16, deep_f32, fraction_below}

module _ (f : Format) (d : Deep f) (x : ℕ) (b : x < 2 * top f) where
  pub fraction_in_format : fraction f x < 2 * top f
  fraction_in_format = go (unsplit f x) refl
    where
      one_of : (t : Bool) → cond t (nan f) x < 2 * top f
      one_of true = omega (arith, nan_below f d.fraction)
      one_of false = b

      go : (t : Bool) → unsplit f x ≡ t → fraction f x < 2 * top f
      go true e = lt_of_le_of_lt (le_of_eq (fraction_whole f x e)) (one_of (is_nan f x))
      go false e = fraction_below f d x (finite f x e).0 (finite f x e).1

pub exponent_below : (f : Format) (x : ℕ) → exponent f x < 2 ^ 32
unfolding exponent
exponent_below f x = go (unsplit f x) _
  where
    go : (t : Bool) (n : ℕ) → cond t 0 (n % 2 ^ 32) < 2 ^ 32
    go true n = lit< tt
    go false n = mod-lt n (lit< tt)

-- ---- as lanes
pub fraction_lane_below : (s : Scalar) (x : ℕ) → x < 2 ^ lane_bits s → fraction_lane s x < 2 ^ lane_bits s
fraction_lane_below Boolean x h = h
fraction_lane_below I32 x h = h
fraction_lane_below U32 x h = h
fraction_lane_below F32 x h = fraction_in_format f32 deep_f32 x h
fraction_lane_below F16 x h = fraction_in_format f16 deep_f16 x h

pub exponent_lane_below : (s : Scalar) (x : ℕ) → exponent_lane s x < 2 ^ 32
exponent_lane_below Boolean x = lit< tt
exponent_lane_below I32 x = lit< tt
exponent_lane_below U32 x = lit< tt
exponent_lane_below F32 x = exponent_below f32 x
exponent_lane_below F16 x = exponent_below f16 x

pub ldexp_lane_below : (x n : ℕ) → x < 2 ^ 32 → ldexp_lane x n < 2 ^ 32
ldexp_lane_below x n h = scaled_below f32 x (integer n) proper_f32 h
