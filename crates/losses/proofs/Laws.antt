-- What Q-7 says of the losses, each statement of specs/Laws: what a loss says of an f32, over the cases of the f32, its half and what comes back;
-- an f32 becomes an infinity exactly from 65520 up. Assumes nothing.
use Prim.Native.Nat.{ℕ, ◌*◌, ◌^◌, ◌≤◌, ◌<◌}
use mathlib.Core.Path.{◌≡◌, refl, sym, ap, ◌∙◌, subst}
use mathlib.Core.Logic.{inl, inr}
use mathlib.Core.Bool.{Bool, true, false}
use native.Mathlib.Nat.{le_trans, le_of_eq, le_of_lt, le_antisymm, lt_of_lt_of_le, eq_of_mul-eq-mul_right}
use native.Mathlib.Omega.{arith}
use lib.Dec.{lit<, eqb}
use lib.Pow.{pow_pos}
use borrow.Author.Tests.{ltb-true, eqb-true, eqb-false}
use Rattle.half.specs.Format.{f16, f32, infinity, magnitude, is_nan, fields, units}
use Rattle.half.specs.Convert.{converted_magnitude, half_of, single_of}
use Rattle.half.proofs.Closest.{split}
use Rattle.half.proofs.Sizes.{units_le, units_lt, units_inj}
use Rattle.half.proofs.Signs.{number}
use Rattle.half.proofs.Conversion.{magnitude_is}
use Rattle.half.proofs.Monotone.{converted_zero}
use Rattle.half.proofs.Half.{half_nan, half_infinity, half_overflows, half_finite}
use Rattle.losses.specs.declared.Loss.{Loss}
use Rattle.losses.specs.declared.Loss.TheVariants.{Exact, Rounded, Overflowed}
use Rattle.losses.specs.Losses.{loss_of}
use Rattle.losses.specs.Laws.{overflows_from, Is65520, ComesBack, ExactWhere, ExactToo, RoundedWhere, ZeroRounded, OverflowedWhere}
use Rattle.losses.proofs.Back.{becomes, finite_number, infinity_back, overflow_lost, back_same, none_lost, overflowed, same_exact, exact, rounded}

pub is_65520 : Is65520
unfolding fields
is_65520 = refl

finite_below : (n : ℕ) → magnitude f32 n < overflows_from → becomes n < infinity f16
finite_below n h = half_finite n (finite_number n (omega arith)) (lt_of_lt_of_le (units_lt f32 (magnitude f32 n) overflows_from h) (le_of_eq is_65520))

infinite_from : (n : ℕ) → magnitude f32 n < infinity f32 → overflows_from ≤ magnitude f32 n → becomes n ≡ infinity f16
infinite_from n h o = half_overflows n (finite_number n h) (le_trans (le_of_eq (sym is_65520)) (units_le f32 overflows_from (magnitude f32 n) o))

-- ---- from the loss
abbrev Says : Loss → ℕ → Type 0
Says Exact n = is_nan f32 n ≡ false → ComesBack n
Says Rounded n = (magnitude f32 n < overflows_from) × (ComesBack n → ⊥)
Says Overflowed n = (magnitude f32 n < infinity f32) × (overflows_from ≤ magnitude f32 n)

says : (n : ℕ) → n < 2 ^ 32 → Says (loss_of n) n
says n l =
    elim (split (magnitude f32 n) (infinity f32)) [
      | inr i ↦ rw (none_lost n i) (λ e. infinity_back n l e i)
      | inl h ↦
          elim (split (magnitude f32 n) overflows_from) [
            | inr o ↦ rw (overflowed n h (infinite_from n h o)) (h, o)
            | inl b ↦ finite h b (eqb (single_of (half_of n)) n) refl
          ]
    ]
  where
    finite : magnitude f32 n < infinity f32 → magnitude f32 n < overflows_from → (t : Bool) → eqb (single_of (half_of n)) n ≡ t → Says (loss_of n) n
    finite h b true t = let back = eqb-true (single_of (half_of n)) n t in rw (exact n h (finite_below n b) back) (λ e. back)
    finite h b false t = let lost = eqb-false (single_of (half_of n)) n t in rw (rounded n l h (finite_below n b) lost) (b, lost)

said : (n : ℕ) → n < 2 ^ 32 → (k : Loss) → loss_of n ≡ k → Says k n
said n l k t = subst (λ (x : Loss). Says x n) t (says n l)

-- ---- to the loss
back_exact : (n : ℕ) → ComesBack n → loss_of n ≡ Exact
back_exact n b =
    elim (split (magnitude f32 n) (infinity f32)) [
      | inr i ↦ none_lost n i
      | inl h ↦
          elim (split (magnitude f32 n) overflows_from) [
            | inr o ↦ absurd (overflow_lost n h (infinite_from n h o) b)
            | inl k ↦ exact n h (finite_below n k) b
          ]
    ]

-- nothing of a zero, and of what becomes one all
zero_size : units f32 0 * 2 ^ 24 ≡ units f16 0 * 2 ^ 149
unfolding fields
zero_size = refl

zero_exact : (n : ℕ) → magnitude f32 n ≡ 0 → loss_of n ≡ Exact
zero_exact n z =
    let r : becomes n ≡ 0 = magnitude_is f32 f16 n (finite_number n (omega arith)) ∙ ap (converted_magnitude f32 f16) z ∙ converted_zero f32 f16 (lit< tt) in
    same_exact n (omega arith) (omega arith) (ap (λ (m : ℕ). units f32 m * 2 ^ 24) z ∙ zero_size ∙ ap (λ (m : ℕ). units f16 m * 2 ^ 149) (sym r))

zero_finite : (n : ℕ) → becomes n ≡ 0 → magnitude f32 n < infinity f32
zero_finite n r =
    elim (split (magnitude f32 n) (infinity f32)) [
      | inl h ↦ h
      | inr i ↦ absurd (go (is_nan f32 n) refl i)
    ]
  where
    go : (t : Bool) → is_nan f32 n ≡ t → infinity f32 ≤ magnitude f32 n → ⊥
    go true e i = omega (arith, ap (magnitude f16) (half_nan n e))
    go false e i = omega (arith, half_infinity n (le_antisymm (number f32 n e) i))

zero_lost : (n : ℕ) → (magnitude f32 n ≡ 0 → ⊥) → becomes n ≡ 0 → ComesBack n → ⊥
zero_lost n z r b =
    z
    (units_inj f32 (magnitude f32 n) 0
    (eq_of_mul-eq-mul_right (2 ^ 24) (pow_pos 24) (units f32 (magnitude f32 n)) (units f32 0)
    (back_same n (zero_finite n r) (omega arith) b ∙ ap (λ (m : ℕ). units f16 m * 2 ^ 149) r ∙ sym zero_size)))

-- ---- exactly where
pub exact_where : ExactWhere
exact_where n l e = (λ t. said n l Exact t e, back_exact n)

pub exact_too : ExactToo
exact_too n (inl z) = zero_exact n z
exact_too n (inr (inl i)) = none_lost n (le_of_eq (sym i))
exact_too n (inr (inr e)) = none_lost n (le_of_lt (ltb-true (infinity f32) (magnitude f32 n) e))

pub rounded_where : RoundedWhere
rounded_where n l = (said n l Rounded, λ p. rounded n l (omega arith) (finite_below n p.0) p.1)

pub zero_rounded : ZeroRounded
zero_rounded n l z r = rounded n l (zero_finite n r) (omega arith) (zero_lost n z r)

pub overflowed_where : OverflowedWhere
overflowed_where n l = (said n l Overflowed, λ p. overflowed n p.0 (infinite_from n p.0 p.1))
