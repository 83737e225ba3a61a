-- From an f32 to a half, for every f32: the sign, zeros and infinities stay, a finite number is rounded to nearest with ties to even and from 65520
-- up is an infinity, the order is kept, and every NaN is 7E00. What holds of any two formats, at these two. Assumes nothing.
use mathlib.Core.Path.{◌≡◌, refl, sym, ap}
use mathlib.Core.Logic.{inl, inr}
use Prim.Native.Nat.{ℕ, ◌*◌, ◌^◌, ◌≤◌, ◌<◌}
use native.Mathlib.Nat.{le_trans, le_of_eq, lt_of_lt_of_le, eq-or-lt_of_le, not-le_of_lt}
use native.Mathlib.Omega.{arith}
use mathlib.Core.Bool.{true, false}
use lib.Dec.{lit<, lit≤}
use lib.Ieee.{size}
use Rattle.half.specs.Format.{f16, f32, infinity, magnitude, negative, is_nan, fields, units, pattern, rounded, magnitude_of, rank}
use Rattle.half.specs.Convert.{converted_magnitude, converted, half_of}
use Rattle.half.specs.Nearest.{overflow, Rounds}
use Rattle.half.proofs.ToNearest.{proper_f16}
use Rattle.half.proofs.Signs.{number}
use Rattle.half.proofs.Conversion.{finite_rounds, sign_kept, infinity_kept, nan_is, converted_bounded}
use Rattle.half.proofs.Monotone.{rank_mono}

pub half_nan : (n : ℕ) → is_nan f32 n ≡ true → half_of n ≡ 0x7e00
half_nan n e = nan_is f32 f16 n e

pub half_below : (n : ℕ) → half_of n < 2 ^ 16
half_below n = converted_bounded f16 (lit< tt) f32 n

pub half_sign : (n : ℕ) → is_nan f32 n ≡ false → negative f16 (half_of n) ≡ negative f32 n
half_sign n e = sign_kept f32 f16 n e

pub half_zeros : (half_of 0 ≡ 0) × (half_of 0x8000_0000 ≡ 0x8000)
unfolding converted converted_magnitude magnitude_of pattern rounded fields size
half_zeros = (refl, refl)

pub half_infinity : (n : ℕ) → magnitude f32 n ≡ infinity f32 → magnitude f16 (half_of n) ≡ infinity f16
half_infinity n e = infinity_kept f32 f16 n e

pub half_order : (n m : ℕ) → is_nan f32 n ≡ false → is_nan f32 m ≡ false → rank f32 n ≤ rank f32 m → rank f16 (half_of n) ≤ rank f16 (half_of m)
half_order n m i j h = rank_mono f32 f16 (lit< tt) n m i j h

-- of a finite number, in units of 2 ^ -24
pub half_rounds : (n : ℕ) → magnitude f32 n < infinity f32 → Rounds f16 (units f32 (magnitude f32 n) * 2 ^ 24) (2 ^ 149) (magnitude f16 (half_of n))
half_rounds n h = finite_rounds f32 f16 proper_f16 n h

pub overflow_is : overflow f16 ≡ 2 * 65520 * 2 ^ 24
unfolding fields
overflow_is = refl

-- ---- 65520 is where the infinity begins
module _ (n : ℕ) (e : is_nan f32 n ≡ false) where
  pub half_overflows : 65520 * 2 ^ 149 ≤ units f32 (magnitude f32 n) → magnitude f16 (half_of n) ≡ infinity f16
  half_overflows h =
      elim (eq-or-lt_of_le (number f32 n e)) [
        | inl i ↦ half_infinity n i
        | inr l ↦ (half_rounds n l).above (at (2 ^ 149) (units f32 (magnitude f32 n)) h)
      ]
    where
      at : (c u : ℕ) → 65520 * c ≤ u → overflow f16 * c ≤ 2 * (u * 2 ^ 24)
      at c u h = le_trans (le_of_eq (ap (λ (x : ℕ). x * c) overflow_is)) (omega arith)

  pub half_finite : units f32 (magnitude f32 n) < 65520 * 2 ^ 149 → magnitude f16 (half_of n) < infinity f16
  half_finite h =
      elim (eq-or-lt_of_le (number f32 n e)) [
        | inl i ↦ absurd (not-le_of_lt h (le_trans most (le_of_eq (ap (units f32) (sym i)))))
        | inr l ↦ ((half_rounds n l).below (at (2 ^ 149) (units f32 (magnitude f32 n)) h)).finite
      ]
    where
      at : (c u : ℕ) → u < 65520 * c → 2 * (u * 2 ^ 24) < overflow f16 * c
      at c u h = lt_of_lt_of_le {m = 2 * 65520 * 2 ^ 24 * c} (omega arith) (le_of_eq (ap (λ (x : ℕ). x * c) (sym overflow_is)))

      most : 65520 * 2 ^ 149 ≤ units f32 (infinity f32)
      most = unfold fields in lit≤ tt
