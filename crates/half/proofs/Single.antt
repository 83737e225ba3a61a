-- From a half to an f32: exact for every half, and undone by the way back. What holds of any format that has all the numbers of another,
-- once it is computed that an f32 has those of a half. Assumes nothing.
use mathlib.Core.Path.{◌≡◌, sym, ap, ◌∙◌}
use Prim.Native.Nat.{ℕ, ◌*◌, ◌^◌, ◌<◌}
use native.Mathlib.Nat.{le_of_eq, lt_of_le_of_lt}
use native.Mathlib.Omega.{arith}
use mathlib.Core.Bool.{true, false}
use borrow.Author.Tests.{le-ltb}
use lib.Dec.{lit<, lit≤}
use Rattle.half.specs.Format.{f16, f32, infinity, magnitude, negative, is_nan, fields, units}
use Rattle.half.specs.Convert.{converted_magnitude, half_of, single_of}
use Rattle.half.proofs.Sizes.{units_inj}
use Rattle.half.proofs.Conversion.{Widens, widened, sign_kept, magnitude_is, infinity_kept, nan_is, converted_bounded, number_back, nan_back}

pub widens : Widens f16 f32
unfolding fields
widens = record { digits = lit≤ tt; finer = lit≤ tt; reach = lit≤ tt }

pub single_nan : (h : ℕ) → is_nan f16 h ≡ true → single_of h ≡ 0x7fc0_0000
single_nan h e = nan_is f16 f32 h e

pub single_below : (h : ℕ) → single_of h < 2 ^ 32
single_below h = converted_bounded f32 (lit< tt) f16 h

pub single_sign : (h : ℕ) → is_nan f16 h ≡ false → negative f32 (single_of h) ≡ negative f16 h
single_sign h e = sign_kept f16 f32 h e

pub single_infinity : (h : ℕ) → magnitude f16 h ≡ infinity f16 → magnitude f32 (single_of h) ≡ infinity f32
single_infinity h e = infinity_kept f16 f32 h e

-- a half's unit is 2 ^ 125 of an f32's
pub of_size : (m r : ℕ) → m < 0x7c00 → units f32 r ≡ units f16 m * 2 ^ 125 → r ≡ converted_magnitude f16 f32 m
of_size m r h e = units_inj f32 r (converted_magnitude f16 f32 m) (e ∙ sym (widened f16 f32 widens m h).1)

pub single_exact : (h : ℕ) → magnitude f16 h < infinity f16 → (magnitude f32 (single_of h) < infinity f32) × (units f32 (magnitude f32 (single_of h)) ≡ units f16 (magnitude f16 h) * 2 ^ 125)
single_exact h l =
    let m = magnitude f16 h in
    let e = magnitude_is f16 f32 h (le-ltb (infinity f16) m (omega arith)) in
    let w = widened f16 f32 widens m l in
    (lt_of_le_of_lt (le_of_eq e) w.0, ap (units f32) e ∙ w.1)

-- ---- and back
pub half_back : (h : ℕ) → h < 2 ^ 16 → is_nan f16 h ≡ false → half_of (single_of h) ≡ h
half_back h l e = number_back f16 f32 widens h l e

pub half_back_nan : (h : ℕ) → is_nan f16 h ≡ true → half_of (single_of h) ≡ 0x7e00
half_back_nan h e = nan_back f16 f32 widens (lit< tt) h e
