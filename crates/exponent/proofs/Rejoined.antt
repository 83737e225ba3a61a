-- Q-4: ldexp of frexp's two results is the number again, for every number of any format that is no NaN, zeros and infinities too. The fraction times
-- the power is the number exactly, and a number of the format is rounded to itself. Assumes nothing.
use Rattle.std.proofs.Common.{◌≡◌, ℕ, ◌*◌, ◌^◌, ◌<◌, false, pos, sym, ap, ◌∙◌, ap₂, inl, inr, le_of_lt, eq-zero-or-pos, eq-or-lt_of_le}
use lib.Ieee.{down}
use Rattle.half.specs.Format.{Format, f32, top, infinity, magnitude, signed, is_nan, magnitude_of}
use Rattle.half.proofs.Signs.{signed_parts, number}
use Rattle.values.specs.declared.Scalar.TheVariants.{F32}
use Rattle.exponent.specs.Exponent.{fraction, exponent, fraction_lane, exponent_lane, integer, ldexp, ldexp_lane}
use Rattle.exponent.proofs.Times.{down_pos, magnitude_exact}
use Rattle.exponent.proofs.RoundsOnce.{infinity_unchanged, zero_unchanged, finite_is}
use Rattle.exponent.proofs.SplitExact.{Deep, deep_f32, proper, fraction_finite, split_exact, zero_whole, infinity_whole}

module _ (f : Format) (d : Deep f) (x : ℕ) (b : x < 2 * top f) (e : is_nan f x ≡ false) where
  abbrev joined : ℕ
  joined = ldexp f (fraction f x) (integer (exponent f x))

  whole : (fraction f x ≡ x) × (exponent f x ≡ 0) → ldexp f x (pos 0) ≡ x → joined ≡ x
  whole p i = ap₂ (λ (r n : ℕ). ldexp f r (integer n)) p.0 p.1 ∙ i

  finite : 0 < magnitude f x → magnitude f x < infinity f → joined ≡ x
  finite n h =
      let z = integer (exponent f x) in
      let r = split_exact f d x n h in
      finite_is f (fraction f x) z (fraction_finite f d x n h)
      ∙ ap₂ (signed f) r.sign (ap (λ (a : ℕ). magnitude_of f a (down z)) (sym r.exact) ∙ magnitude_exact f (magnitude f x) (down z) (down_pos z) (le_of_lt h))
      ∙ signed_parts f x b

  pub rejoined : joined ≡ x
  rejoined =
      elim (eq-or-lt_of_le (number f x e)) [
        | inl i ↦ whole (infinity_whole f x i) (infinity_unchanged f x (pos 0) i)
        | inr h ↦
            elim (eq-zero-or-pos (magnitude f x)) [
              | inl i ↦ whole (zero_whole f x i) (zero_unchanged f x (pos 0) (proper f d) b i)
              | inr n ↦ finite n h
            ]
      ]

pub rejoined_f32 : (x : ℕ) → x < 2 ^ 32 → is_nan f32 x ≡ false → ldexp_lane (fraction_lane F32 x) (exponent_lane F32 x) ≡ x
rejoined_f32 x b e = rejoined f32 deep_f32 x b e
