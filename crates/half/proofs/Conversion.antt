-- Conversion between any two formats: sign, infinities, NaNs, and that a finite number is rounded to nearest. And where every finite number of the one is a finite number of the other
-- (`Widens`), conversion is exact, and the way back undoes it. Assumes nothing.
use mathlib.Core.Path.{◌≡◌, refl, sym, ap, ◌∙◌, subst}
use mathlib.Core.Logic.{inl, inr}
use Prim.Native.Nat.{ℕ, suc, ◌+◌, ◌-◌, ◌*◌, ◌/◌, ◌^◌, ◌≤◌, ◌<◌, min}
use native.Mathlib.Nat.{le_trans, le_of_eq, le_of_lt, lt_of_lt_of_le, lt_of_le_of_lt, le_antisymm, mul_assoc, mul-lt-mul_of_pos_right, min-eq_left, min-le_right, sub-add_cancel, mod-eq_of_lt}
use native.Mathlib.Omega.{arith}
use mathlib.Core.Bool.{Bool, true, false}
use borrow.Author.Tests.{lt-ltb, le-ltb}
use lib.Pow.{pow_pos, pow_mono, pow-add}
use Rattle.half.specs.Format.{Format, hidden, top, infinity, nan, magnitude, negative, signed, is_nan, lowest, units, pattern, rounded, magnitude_of}
use Rattle.half.specs.Convert.{converted_magnitude, converted}
use Rattle.half.specs.Nearest.{Rounds}
use Rattle.half.proofs.Closest.{split}
use Rattle.half.proofs.Sizes.{parts, pattern_units, units_pattern, units_lt, lt_of_units}
use Rattle.half.proofs.Rounding.{rounded_exact, rounded_units}
use Rattle.half.proofs.ToNearest.{Proper, rounds}
use Rattle.half.proofs.Signs.{top_is, infinity_below, negative_signed, magnitude_signed, signed_below, signed_parts, number}

module _ (f g : Format) where
  pub finite_is : (m : ℕ) → m < infinity f → converted_magnitude f g m ≡ magnitude_of g (units f m * 2 ^ lowest g) (2 ^ lowest f)
  unfolding converted_magnitude
  finite_is m h = rw (lt-ltb m (infinity f) h)

  pub infinite_is : (m : ℕ) → infinity f ≤ m → converted_magnitude f g m ≡ infinity g
  unfolding converted_magnitude
  infinite_is m h = rw (le-ltb m (infinity f) h)

  pub converted_most : (m : ℕ) → converted_magnitude f g m ≤ infinity g
  unfolding magnitude_of
  converted_most m =
      elim (split m (infinity f)) [
        | inl l ↦ le_trans (le_of_eq (finite_is m l)) (min-le_right (pattern g (rounded g (units f m * 2 ^ lowest g) (2 ^ lowest f))) (infinity g))
        | inr h ↦ le_of_eq (infinite_is m h)
      ]

  converted_below : (m : ℕ) → converted_magnitude f g m < top g
  converted_below m = lt_of_le_of_lt (converted_most m) (infinity_below g)

  -- ---- the pattern
  pub nan_is : (n : ℕ) → is_nan f n ≡ true → converted f g n ≡ nan g
  unfolding converted
  nan_is n e = rw e

  pub number_is : (n : ℕ) → is_nan f n ≡ false → converted f g n ≡ signed g (negative f n) (converted_magnitude f g (magnitude f n))
  unfolding converted
  number_is n e = rw e

  pub sign_kept : (n : ℕ) → is_nan f n ≡ false → negative g (converted f g n) ≡ negative f n
  sign_kept n e = ap (negative g) (number_is n e) ∙ negative_signed g (negative f n) (converted_magnitude f g (magnitude f n)) (converted_below (magnitude f n))

  pub magnitude_is : (n : ℕ) → is_nan f n ≡ false → magnitude g (converted f g n) ≡ converted_magnitude f g (magnitude f n)
  magnitude_is n e = ap (magnitude g) (number_is n e) ∙ magnitude_signed g (negative f n) (converted_magnitude f g (magnitude f n)) (converted_below (magnitude f n))

  pub infinity_kept : (n : ℕ) → magnitude f n ≡ infinity f → magnitude g (converted f g n) ≡ infinity g
  infinity_kept n e = magnitude_is n (le-ltb (infinity f) (magnitude f n) (le_of_eq e)) ∙ infinite_is (magnitude f n) (le_of_eq (sym e))

  pub finite_rounds : Proper g → (n : ℕ) → magnitude f n < infinity f → Rounds g (units f (magnitude f n) * 2 ^ lowest g) (2 ^ lowest f) (magnitude g (converted f g n))
  finite_rounds p n h =
      let m = magnitude f n in
      subst (λ (x : ℕ). Rounds g (units f m * 2 ^ lowest g) (2 ^ lowest f) x) (sym (magnitude_is n (le-ltb (infinity f) m (le_of_lt h)) ∙ finite_is m h))
      (rounds g p (units f m * 2 ^ lowest g) (2 ^ lowest f) (pow_pos (lowest f)))

  pub number_kept : (n : ℕ) → is_nan f n ≡ false → is_nan g (converted f g n) ≡ false
  number_kept n e = le-ltb (infinity g) (magnitude g (converted f g n)) (le_trans (le_of_eq (magnitude_is n e)) (converted_most (magnitude f n)))

-- ---- the NaN that is worked out is one, and below the sign
module _ (g : Format) (p : 0 < g.fraction) where
  half_hidden : (0 < hidden g / 2) × (hidden g / 2 < hidden g)
  half_hidden =
      let two : 2 ≤ hidden g = pow_mono {i = 1} {j = g.fraction} p in
      (omega arith, omega arith)

  pub nan_below : nan g < top g
  nan_below = omega (arith, top_is g, half_hidden.1)

  pub nan_is_nan : is_nan g (nan g) ≡ true
  nan_is_nan = lt-ltb (infinity g) (magnitude g (nan g)) (lt_of_lt_of_le above (le_of_eq (sym (mod-eq_of_lt nan_below))))
    where
      above : infinity g < nan g
      above = omega (arith, half_hidden.0)

  pub converted_bounded : (f : Format) (n : ℕ) → converted f g n < 2 * top g
  converted_bounded f n = go (is_nan f n) refl
    where
      go : (b : Bool) → is_nan f n ≡ b → converted f g n < 2 * top g
      go true e = lt_of_le_of_lt (le_of_eq (nan_is f g n e)) (omega (arith, nan_below))
      go false e = lt_of_le_of_lt (le_of_eq (number_is f g n e)) (signed_below g (negative f n) (converted_magnitude f g (magnitude f n)) (converted_below f g (magnitude f n)))

-- ---- to a format that has every number of f
pub record Widens (f g : Format) : Type 0 where
  pub digits : f.fraction ≤ g.fraction
  pub finer : lowest f ≤ lowest g
  pub reach : units f (infinity f) * 2 ^ (lowest g - lowest f) ≤ units g (infinity g)

module _ (f g : Format) (w : Widens f g) where
  scale : (x : ℕ) → x * 2 ^ lowest g ≡ x * 2 ^ (lowest g - lowest f) * 2 ^ lowest f
  scale x = ap (λ (z : ℕ). x * 2 ^ z) (sym (sub-add_cancel w.finer)) ∙ ap (λ (z : ℕ). x * z) (pow-add 2 (lowest g - lowest f) (lowest f)) ∙ sym (mul_assoc x (2 ^ (lowest g - lowest f)) (2 ^ lowest f))

  pub widened : (m : ℕ) → m < infinity f → (converted_magnitude f g m < infinity g) × (units g (converted_magnitude f g m) ≡ units f m * 2 ^ (lowest g - lowest f))
  unfolding magnitude_of
  widened m h =
      let p = parts f m in
      let d = lowest g - lowest f in
      let few : p.q < 2 ^ suc g.fraction = lt_of_lt_of_le p.below (pow_mono (omega (arith, w.digits))) in
      let u : units f m * 2 ^ d ≡ p.q * 2 ^ (p.k + d) = ap (λ (z : ℕ). z * 2 ^ d) p.size ∙ mul_assoc p.q (2 ^ p.k) (2 ^ d) ∙ ap (λ (z : ℕ). p.q * z) (sym (pow-add 2 p.k d)) in
      let r : rounded g (units f m * 2 ^ lowest g) (2 ^ lowest f) ≡ units f m * 2 ^ d =
      rounded_exact g (units f m * 2 ^ lowest g) (2 ^ lowest f) (p.k + d) p.q (pow_pos (lowest f)) few (scale (units f m) ∙ ap (λ (z : ℕ). z * 2 ^ lowest f) u) ∙ sym u in
      let s : units g (pattern g (units f m * 2 ^ d)) ≡ units f m * 2 ^ d = subst (λ (z : ℕ). units g (pattern g z) ≡ z) (sym u) (units_pattern g (p.k + d) p.q (le_of_lt few)) in
      let l : pattern g (units f m * 2 ^ d) < infinity g =
      lt_of_units g (pattern g (units f m * 2 ^ d)) (infinity g) (lt_of_le_of_lt (le_of_eq s) (lt_of_lt_of_le (mul-lt-mul_of_pos_right (units_lt f m (infinity f) h) (pow_pos d)) w.reach)) in
      let e : converted_magnitude f g m ≡ pattern g (units f m * 2 ^ d) = finite_is f g m h ∙ ap (λ (z : ℕ). min (pattern g z) (infinity g)) r ∙ min-eq_left (le_of_lt l) in
      (lt_of_le_of_lt (le_of_eq e) l, ap (units g) e ∙ s)

  pub magnitude_back : (m : ℕ) → m ≤ infinity f → converted_magnitude g f (converted_magnitude f g m) ≡ m
  unfolding magnitude_of
  magnitude_back m h =
      elim (split m (infinity f)) [
        | inl l ↦
            finite_is g f (converted_magnitude f g m) (widened m l).0
            ∙ ap (λ (z : ℕ). min (pattern f (rounded f z (2 ^ lowest g))) (infinity f)) (ap (λ (z : ℕ). z * 2 ^ lowest f) (widened m l).1 ∙ sym (scale (units f m)))
            ∙ ap (λ (z : ℕ). min (pattern f z) (infinity f)) (rounded_units f m (2 ^ lowest g) (pow_pos (lowest g)))
            ∙ ap (λ (z : ℕ). min z (infinity f)) (pattern_units f m)
            ∙ min-eq_left h
        | inr k ↦ infinite_is g f (converted_magnitude f g m) (le_of_eq (sym (infinite_is f g m k))) ∙ le_antisymm k h
      ]

  pub number_back : (n : ℕ) → n < 2 * top f → is_nan f n ≡ false → converted g f (converted f g n) ≡ n
  number_back n h e =
      number_is g f (converted f g n) (number_kept f g n e)
      ∙ ap (λ (s : Bool). signed f s (converted_magnitude g f (magnitude g (converted f g n)))) (sign_kept f g n e)
      ∙ ap (λ (m : ℕ). signed f (negative f n) m) (ap (converted_magnitude g f) (magnitude_is f g n e) ∙ magnitude_back (magnitude f n) (number f n e))
      ∙ signed_parts f n h

  pub nan_back : 0 < g.fraction → (n : ℕ) → is_nan f n ≡ true → converted g f (converted f g n) ≡ nan f
  nan_back p n e = ap (converted g f) (nan_is f g n e) ∙ nan_is g f (nan g) (nan_is_nan g p)
