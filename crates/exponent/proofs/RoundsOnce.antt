-- What ldexp gives, for every number of any format and every power: a finite number times the power of two rounded once to nearest, the sign
-- kept, zeros and infinities unchanged, and the one NaN. `magnitude_of` rounds so. Assumes nothing.
use Rattle.std.proofs.Common.{◌≡◌, ℕ, ◌*◌, ◌<◌, ◌≤◌, Bool, true, false, ℤ, sym, refl, ap, ◌∙◌, subst, inl, inr, le_of_eq, lt_of_le_of_lt, eq-or-lt_of_le, arith, le-ltb, le-leb}
use native.Mathlib.Nat.{min-le_right}
use lib.Ieee.{up, down}
use borrow.Author.Tests.{lt-leb}
use Rattle.half.specs.Format.{Format, top, infinity, nan, magnitude, negative, signed, is_nan, units, pattern, rounded, magnitude_of}
use Rattle.half.specs.Nearest.{Rounds}
use Rattle.half.proofs.ToNearest.{Proper, rounds}
use Rattle.half.proofs.Signs.{infinity_below, infinity_pos, negative_signed, magnitude_signed, signed_below, signed_parts, number}
use Rattle.half.proofs.Conversion.{nan_below}
use Rattle.exponent.specs.Exponent.{ldexp}
use Rattle.exponent.proofs.Times.{down_pos, magnitude_zero}

module _ (f : Format) where
  pub magnitude_most : (a c : ℕ) → magnitude_of f a c ≤ infinity f
  unfolding magnitude_of
  magnitude_most a c = min-le_right (pattern f (rounded f a c)) (infinity f)

  magnitude_below : (a c : ℕ) → magnitude_of f a c < top f
  magnitude_below a c = lt_of_le_of_lt (magnitude_most a c) (infinity_below f)

module _ (f : Format) (x : ℕ) (z : ℤ) where
  pub nan_worked_out : is_nan f x ≡ true → ldexp f x z ≡ nan f
  unfolding ldexp
  nan_worked_out e = rw e

  pub infinity_unchanged : magnitude f x ≡ infinity f → ldexp f x z ≡ x
  unfolding ldexp
  infinity_unchanged e = rw (le-ltb (infinity f) (magnitude f x) (le_of_eq e), le-leb (infinity f) (magnitude f x) (le_of_eq (sym e)))

  pub finite_is : magnitude f x < infinity f → ldexp f x z ≡ signed f (negative f x) (magnitude_of f (units f (magnitude f x) * up z) (down z))
  unfolding ldexp
  finite_is h = rw (le-ltb (infinity f) (magnitude f x) (omega arith), lt-leb (infinity f) (magnitude f x) h)

  pub rounds_once : Proper f → magnitude f x < infinity f → Rounds f (units f (magnitude f x) * up z) (down z) (magnitude f (ldexp f x z))
  rounds_once p h =
      let a = units f (magnitude f x) * up z in
      subst (λ (m : ℕ). Rounds f a (down z) m) (sym (ap (magnitude f) (finite_is h) ∙ magnitude_signed f (negative f x) (magnitude_of f a (down z)) (magnitude_below f a (down z))))
      (rounds f p a (down z) (down_pos z))

  pub sign_kept : is_nan f x ≡ false → negative f (ldexp f x z) ≡ negative f x
  sign_kept e =
      elim (eq-or-lt_of_le (number f x e)) [
        | inl i ↦ ap (negative f) (infinity_unchanged i)
        | inr h ↦ ap (negative f) (finite_is h) ∙ negative_signed f (negative f x) (magnitude_of f (units f (magnitude f x) * up z) (down z)) (magnitude_below f (units f (magnitude f x) * up z) (down z))
      ]

  module _ (p : Proper f) (b : x < 2 * top f) where
    pub zero_unchanged : magnitude f x ≡ 0 → ldexp f x z ≡ x
    zero_unchanged e =
        finite_is (lt_of_le_of_lt (le_of_eq e) (infinity_pos f p.exponent))
        ∙ ap (λ (m : ℕ). signed f (negative f x) m) (ap (λ (m : ℕ). magnitude_of f (units f m * up z) (down z)) e ∙ magnitude_zero f (up z) (down z) (down_pos z) ∙ sym e)
        ∙ signed_parts f x b

    pub scaled_below : ldexp f x z < 2 * top f
    scaled_below = go (is_nan f x) refl
      where
        go : (t : Bool) → is_nan f x ≡ t → ldexp f x z < 2 * top f
        go true e = lt_of_le_of_lt (le_of_eq (nan_worked_out e)) (omega (arith, nan_below f p.fraction))
        go false e =
            elim (eq-or-lt_of_le (number f x e)) [
              | inl i ↦ lt_of_le_of_lt (le_of_eq (infinity_unchanged i)) b
              | inr h ↦ lt_of_le_of_lt (le_of_eq (finite_is h)) (signed_below f (negative f x) (magnitude_of f (units f (magnitude f x) * up z) (down z)) (magnitude_below f (units f (magnitude f x) * up z) (down z)))
            ]
