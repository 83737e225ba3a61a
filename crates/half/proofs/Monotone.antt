-- Rounding keeps the order, and so does conversion between any two formats: of two numbers the one that is no greater gives one that is no
-- greater. What conversion adds to rounding is the infinity, and that the order turns round below zero. Assumes nothing.
use mathlib.Core.Path.{◌≡◌, sym, ap, ◌∙◌}
use mathlib.Core.Logic.{inl, inr}
use Prim.Native.Nat.{ℕ, ◌+◌, ◌-◌, ◌*◌, ◌^◌, ◌≤◌, ◌<◌, min}
use native.Mathlib.Nat.{le_trans, le_of_eq, le-min, min-le_left, min-le_right, mul-le-mul_right, zero-mul, zero-min, mod-lt}
use native.Mathlib.Omega.{arith}
use mathlib.Core.Bool.{Bool, true, false, cond}
use lib.Pow.{pow_pos}
use Rattle.half.specs.Format.{Format, top, infinity, magnitude, negative, is_nan, lowest, units, pattern, rounded, magnitude_of, rank}
use Rattle.half.specs.Convert.{converted_magnitude, converted}
use Rattle.half.proofs.Closest.{split}
use Rattle.half.proofs.Sizes.{pattern_small, units_small, units_le}
use Rattle.half.proofs.Rounding.{uncapped, uncapped_mono, rounded_none}
use Rattle.half.proofs.Signs.{top_pos, infinity_pos}
use Rattle.half.proofs.Conversion.{finite_is, infinite_is, converted_most, sign_kept, magnitude_is}

pub magnitude_mono : (f : Format) (a c b d : ℕ) → 0 < c → 0 < d → a * d ≤ b * c → magnitude_of f a c ≤ magnitude_of f b d
unfolding magnitude_of
magnitude_mono f a c b d C D h =
    let m = uncapped f a c in
    le-min (le_trans (min-le_left m (infinity f)) (uncapped_mono f a c b d C D h)) (min-le_right m (infinity f))

module _ (f g : Format) where
  pub converted_mono : (m n : ℕ) → m ≤ n → converted_magnitude f g m ≤ converted_magnitude f g n
  converted_mono m n h =
      elim (split n (infinity f)) [
        | inr i ↦ le_trans (converted_most f g m) (le_of_eq (sym (infinite_is f g n i)))
        | inl l ↦
            let c = 2 ^ lowest f in
            let C = pow_pos (lowest f) in
            le_trans (le_of_eq (finite_is f g m (omega arith)))
            (le_trans (magnitude_mono g (units f m * 2 ^ lowest g) c (units f n * 2 ^ lowest g) c C C (mul-le-mul_right c (mul-le-mul_right (2 ^ lowest g) (units_le f m n h))))
            (le_of_eq (sym (finite_is f g n l))))
      ]

  pub converted_zero : 0 < f.exponent → converted_magnitude f g 0 ≡ 0
  unfolding magnitude_of
  converted_zero p =
      finite_is f g 0 (infinity_pos f p)
      ∙ ap (λ (u : ℕ). min (pattern g (rounded g u (2 ^ lowest f))) (infinity g)) (ap (λ (u : ℕ). u * 2 ^ lowest g) (units_small f 0 (pow_pos f.fraction)) ∙ zero-mul (2 ^ lowest g))
      ∙ ap (λ (u : ℕ). min (pattern g u) (infinity g)) (rounded_none g 0 (2 ^ lowest f) (pow_pos (lowest f)))
      ∙ ap (λ (m : ℕ). min m (infinity g)) (pattern_small g 0 (omega arith))
      ∙ zero-min (infinity g)

  -- by the signs: a magnitude that shrinks on the negative side grows in rank
  pub rank_mono : 0 < f.exponent → (m n : ℕ) → is_nan f m ≡ false → is_nan f n ≡ false → rank f m ≤ rank f n → rank g (converted f g m) ≤ rank g (converted f g n)
  rank_mono p m n i j h =
      let a = magnitude f m in
      let b = magnitude f n in
      le_trans (le_of_eq (converted_rank m i))
      (le_trans (by_signs (negative f m) (negative f n) a b (mod-lt m (top_pos f)) (mod-lt n (top_pos f)) h) (le_of_eq (sym (converted_rank n j))))
    where
      ranked : Format → Bool → ℕ → ℕ
      ranked f s m = cond s (top f - m) (top f + m)

      converted_rank : (n : ℕ) → is_nan f n ≡ false → rank g (converted f g n) ≡ ranked g (negative f n) (converted_magnitude f g (magnitude f n))
      converted_rank n e = ap (λ (s : Bool). ranked g s (magnitude g (converted f g n))) (sign_kept f g n e) ∙ ap (ranked g (negative f n)) (magnitude_is f g n e)

      by_signs : (s t : Bool) (a b : ℕ) → a < top f → b < top f → ranked f s a ≤ ranked f t b → ranked g s (converted_magnitude f g a) ≤ ranked g t (converted_magnitude f g b)
      by_signs false false a b x y h = omega (arith, converted_mono a b (omega arith))
      by_signs true false a b x y h = omega arith
      by_signs true true a b x y h = omega (arith, converted_mono b a (omega arith))
      by_signs false true a b x y h =
          let A : a ≡ 0 = omega arith in
          let B : b ≡ 0 = omega arith in
          omega (arith, ap (converted_magnitude f g) A ∙ converted_zero p, ap (converted_magnitude f g) B ∙ converted_zero p)
