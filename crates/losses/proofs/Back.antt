-- What comes back from a half: an f32 and the f32 of its half have one sign, so that they are one where their magnitudes are; and these are one
-- exactly where the sizes of f32 and half are, since the way back keeps the size. Assumes nothing.
use mathlib.Core.Path.{◌≡◌, sym, ap, ap₂, ◌∙◌}
use Prim.Native.Nat.{ℕ, ◌*◌, ◌^◌, ◌≤◌, ◌<◌}
use native.Mathlib.Nat.{le_trans, le_of_eq, le_of_lt, le_antisymm, lt_irrefl, lt_of_le_of_lt, mul_assoc, eq_of_mul-eq-mul_right}
use mathlib.Core.Bool.{false}
use borrow.Author.Tests.{lt-ltb, le-ltb, eq-eqb, ne_eqb}
use lib.Arith.{lt_of_le-ne}
use lib.Pow.{pow_pos}
use Rattle.half.specs.Format.{f16, f32, infinity, magnitude, signed, is_nan, units}
use Rattle.half.specs.Convert.{half_of, single_of}
use Rattle.half.proofs.Sizes.{units_inj}
use Rattle.half.proofs.Signs.{number, signed_parts}
use Rattle.half.proofs.Conversion.{number_kept, magnitude_is, converted_most}
use Rattle.half.proofs.Half.{half_sign, half_infinity}
use Rattle.half.proofs.Single.{single_sign, single_below, single_infinity, single_exact}
use Rattle.losses.specs.declared.Loss.TheVariants.{Exact, Rounded, Overflowed}
use Rattle.losses.specs.Losses.{loss_between, loss_of}
use Rattle.losses.specs.Laws.{ComesBack}

module _ (n : ℕ) where
  -- the half's magnitude
  abbrev pub becomes : ℕ
  becomes = magnitude f16 (half_of n)

  -- both sizes in one unit
  abbrev pub SameSize : Type 0
  SameSize = units f32 (magnitude f32 n) * 2 ^ 24 ≡ units f16 becomes * 2 ^ 149

  pub finite_number : magnitude f32 n < infinity f32 → is_nan f32 n ≡ false
  finite_number h = le-ltb (infinity f32) (magnitude f32 n) (le_of_lt h)

  pub finite_half : magnitude f32 n < infinity f32 → (becomes ≡ infinity f16 → ⊥) → becomes < infinity f16
  finite_half h d = lt_of_le-ne (le_trans (le_of_eq (magnitude_is f32 f16 n (finite_number h))) (converted_most f32 f16 (magnitude f32 n))) d

  same_number : n < 2 ^ 32 → is_nan f32 n ≡ false → magnitude f32 (single_of (half_of n)) ≡ magnitude f32 n → ComesBack n
  same_number l e q =
      let s = single_of (half_of n) in
      sym (signed_parts f32 s (single_below (half_of n))) ∙ ap₂ (signed f32) (single_sign (half_of n) (number_kept f32 f16 n e) ∙ half_sign n e) q ∙ signed_parts f32 n l

  pub infinity_back : n < 2 ^ 32 → is_nan f32 n ≡ false → infinity f32 ≤ magnitude f32 n → ComesBack n
  infinity_back l e h =
      let i : magnitude f32 n ≡ infinity f32 = le_antisymm (number f32 n e) h in
      same_number l e (single_infinity (half_of n) (half_infinity n i) ∙ sym i)

  pub overflow_lost : magnitude f32 n < infinity f32 → becomes ≡ infinity f16 → ComesBack n → ⊥
  overflow_lost h i b = lt_irrefl (infinity f32) (lt_of_le_of_lt (le_of_eq (sym (single_infinity (half_of n) i) ∙ ap (magnitude f32) b)) h)

  module _ (h : magnitude f32 n < infinity f32) (k : becomes < infinity f16) where
    same_back : n < 2 ^ 32 → SameSize → ComesBack n
    same_back l u =
        let v = units f16 becomes in
        same_number l (finite_number h)
        (units_inj f32 (magnitude f32 (single_of (half_of n))) (magnitude f32 n)
        ((single_exact (half_of n) k).1 ∙ sym (eq_of_mul-eq-mul_right (2 ^ 24) (pow_pos 24) (units f32 (magnitude f32 n)) (v * 2 ^ 125) (u ∙ sym (mul_assoc v (2 ^ 125) (2 ^ 24))))))

    pub back_same : ComesBack n → SameSize
    back_same b =
        let v = units f16 becomes in
        ap (λ (x : ℕ). units f32 (magnitude f32 x) * 2 ^ 24) (sym b) ∙ ap (λ (x : ℕ). x * 2 ^ 24) (single_exact (half_of n) k).1 ∙ mul_assoc v (2 ^ 125) (2 ^ 24)

  -- ---- the loss, by what is known of the f32 and its half
  pub none_lost : infinity f32 ≤ magnitude f32 n → loss_of n ≡ Exact
  unfolding loss_between
  none_lost h = rw (le-ltb (magnitude f32 n) (infinity f32) h)

  pub overflowed : magnitude f32 n < infinity f32 → becomes ≡ infinity f16 → loss_of n ≡ Overflowed
  unfolding loss_between
  overflowed h i = rw (lt-ltb (magnitude f32 n) (infinity f32) h, le-ltb becomes (infinity f16) (le_of_eq (sym i)))

  pub same_exact : magnitude f32 n < infinity f32 → becomes < infinity f16 → SameSize → loss_of n ≡ Exact
  unfolding loss_between
  same_exact h k u = rw (lt-ltb (magnitude f32 n) (infinity f32) h, lt-ltb becomes (infinity f16) k, eq-eqb (units f32 (magnitude f32 n) * 2 ^ 24) (units f16 becomes * 2 ^ 149) u)

  pub exact : magnitude f32 n < infinity f32 → becomes < infinity f16 → ComesBack n → loss_of n ≡ Exact
  exact h k b = same_exact h k (back_same h k b)

  pub rounded : n < 2 ^ 32 → magnitude f32 n < infinity f32 → becomes < infinity f16 → (ComesBack n → ⊥) → loss_of n ≡ Rounded
  unfolding loss_between
  rounded l h k b = rw (lt-ltb (magnitude f32 n) (infinity f32) h, lt-ltb becomes (infinity f16) k, ne_eqb (units f32 (magnitude f32 n) * 2 ^ 24) (units f16 becomes * 2 ^ 149) (λ u. b (same_back h k l u)))
