-- frexp of a finite number that is not 0: the fraction has its sign and a magnitude in [0.5, 1), and the number is the fraction times 2 to the
-- exponent, exactly. Both are read off the number's first digits; the exponent's bits stand for the difference of two counts of digits.
-- Zero, infinity and NaN are not split. Assumes nothing.
use Rattle.std.proofs.Common.{◌≡◌, ℕ, suc, ◌+◌, ◌-◌, ◌*◌, ◌/◌, ◌%◌, ◌^◌, ◌<◌, ◌≤◌, Bool, true, false, ◌||◌, eqb, pos, negsuc, sym, refl, ap, ◌∙◌, inl, inr, le_trans, le_of_eq, lt_of_lt_of_le, lt_of_le_of_lt, mul-le-mul_right, mul_assoc, mul_comm, div-lt_iff_lt-mul, add-mul, mul-lt-mul_of_pos_right, mul_right_comm, arith, lit<, lit≤, pow_pos, pow_mono, pow-add, ltb-true, le-ltb, lt-ltb, eq-eqb, le-leb}
use native.Mathlib.Nat.{eq_of_mul-eq-mul_right, two-pow-succ}
use lib.Ieee.{up, down, minus}
use lib.Ieee.Digits.{minus_val}
use borrow.Author.Tests.{lt-leb}
use Rattle.half.specs.Format.{Format, f16, f32, hidden, top, infinity, nan, magnitude, negative, signed, is_nan, lowest, units}
use Rattle.half.proofs.Closest.{split}
use Rattle.half.proofs.Sizes.{units_full}
use Rattle.half.proofs.ToNearest.{Proper}
use Rattle.half.proofs.Signs.{infinity_below, negative_signed, magnitude_signed, signed_below}
use Rattle.exponent.specs.Exponent.{unsplit, fraction, exponent, integer}
use Rattle.exponent.specs.Splits.{Splits}
use Rattle.exponent.proofs.FirstDigits.{Led, led, behind, halved, lowest_is}
use Rattle.exponent.proofs.Cases.{fraction_whole, exponent_whole, splits, fraction_is, exponent_is}

-- 0.5 is no subnormal, a digit is kept beside the leading one, and every exponent is an i32
pub record Deep (f : Format) : Type 0 where
  pub exponent : 3 ≤ f.exponent
  pub fraction : 0 < f.fraction
  pub range : 2 ^ f.exponent + f.fraction ≤ 2 ^ 31

pub proper : (f : Format) → Deep f → Proper f
proper f d = record { exponent = omega (arith, d.exponent); fraction = d.fraction }

pub deep_f16 : Deep f16
deep_f16 = record { exponent = lit≤ tt; fraction = lit< tt; range = lit≤ tt }

pub deep_f32 : Deep f32
deep_f32 = record { exponent = lit≤ tt; fraction = lit< tt; range = lit≤ tt }

-- the difference of two counts, by the bits of an i32
integer_is : (s l : ℕ) → s < 2 ^ 31 → l < 2 ^ 31 → integer ((2 ^ 32 + s - l) % 2 ^ 32) ≡ minus s l
integer_is s l a b =
    elim (split s l) [
      | inr g ↦ rw (le-leb l s g, lt-ltb ((2 ^ 32 + s - l) % 2 ^ 32) 0x8000_0000 (omega arith)) (ap pos (omega arith))
      | inl h ↦ rw (lt-leb l s h, le-ltb ((2 ^ 32 + s - l) % 2 ^ 32) 0x8000_0000 (omega arith)) (ap negsuc (omega arith))
    ]

-- ---- with q the first digits of x and s their count
module _ (f : Format) (d : Deep f) (x : ℕ) (n : 0 < magnitude f x) (h : magnitude f x < infinity f) where
  digits : Led f.fraction (magnitude f x)
  digits = led f.fraction (magnitude f x) n

  abbrev q : ℕ
  q = digits.q

  abbrev s : ℕ
  s = digits.s

  -- the fraction's magnitude
  abbrev m : ℕ
  m = behind f * hidden f + q

  small : m < infinity f
  small =
      let w = halved f.exponent d.exponent in
      lt_of_lt_of_le (omega (arith, digits.leads.most, two-pow-succ f.fraction, add-mul (behind f) 2 (hidden f))) (mul-le-mul_right {m = behind f + 2} {n = 2 ^ f.exponent - 1} (hidden f) (omega (arith, w.0, w.1)))

  fraction_splits : fraction f x ≡ signed f (negative f x) m
  fraction_splits = fraction_is f x (splits f x n h) q s digits.leads (behind f) (lowest_is f d.exponent)

  magnitude_is : magnitude f (fraction f x) ≡ m
  magnitude_is = ap (magnitude f) fraction_splits ∙ magnitude_signed f (negative f x) m (omega (arith, small, infinity_below f))

  pub fraction_finite : magnitude f (fraction f x) < infinity f
  fraction_finite = lt_of_le_of_lt (le_of_eq magnitude_is) small

  pub fraction_below : fraction f x < 2 * top f
  fraction_below = lt_of_le_of_lt (le_of_eq fraction_splits) (signed_below f (negative f x) m (omega (arith, small, infinity_below f)))

  size_of : units f (magnitude f (fraction f x)) ≡ q * 2 ^ behind f
  size_of = ap (units f) magnitude_is ∙ units_full f (behind f) q digits.leads.least (omega (arith, digits.leads.most, two-pow-succ f.fraction))

  one : 2 ^ lowest f ≡ 2 ^ suc f.fraction * 2 ^ behind f
  one = ap (λ (y : ℕ). 2 ^ y) (lowest_is f d.exponent) ∙ pow-add 2 (suc f.fraction) (behind f)

  exponent_splits : integer (exponent f x) ≡ minus s (lowest f)
  exponent_splits =
      let field : magnitude f x / hidden f < 2 ^ f.exponent = (div-lt_iff_lt-mul (pow_pos f.fraction)).1 (omega (arith, h, infinity_below f)) in
      let half : 2 ^ (f.exponent - 1) ≤ 2 ^ f.exponent = pow_mono (omega arith) in
      ap integer (exponent_is f x (splits f x n h) q s digits.leads) ∙ integer_is s (lowest f) (omega (arith, digits.leads.count, d.range)) (omega (arith, d.range, pow_pos f.exponent))

  pub split_exact : Splits f x (fraction f x) (integer (exponent f x))
  split_exact =
      let p = suc f.fraction in
      let j = behind f in
      let u = units f (magnitude f x) in
      let z = minus s (lowest f) in
      rw exponent_splits
      (record {
        sign = ap (negative f) fraction_splits ∙ negative_signed f (negative f x) m (omega (arith, small, infinity_below f));
        least = le_trans (le_of_eq (one ∙ ap (λ (y : ℕ). y * 2 ^ j) (two-pow-succ f.fraction) ∙ add-mul (hidden f) (hidden f) (2 ^ j))) (omega (arith, size_of, mul-le-mul_right (2 ^ j) digits.leads.least));
        most = lt_of_le_of_lt (le_of_eq size_of) (lt_of_lt_of_le (mul-lt-mul_of_pos_right digits.leads.most (pow_pos j)) (le_of_eq (sym one)));
        exact =
            eq_of_mul-eq-mul_right (2 ^ p) (pow_pos p) (u * down z) (units f (magnitude f (fraction f x)) * up z)
            (mul_right_comm u (down z) (2 ^ p)
            ∙ ap (λ (y : ℕ). y * down z) (digits.leads.same f.exponent)
            ∙ sym (minus_val q s (lowest f))
            ∙ ap (λ (y : ℕ). q * up z * y) (one ∙ mul_comm (2 ^ p) (2 ^ j))
            ∙ sym (mul_assoc (q * up z) (2 ^ j) (2 ^ p))
            ∙ ap (λ (y : ℕ). y * 2 ^ p) (mul_right_comm q (up z) (2 ^ j) ∙ ap (λ (y : ℕ). y * up z) (sym size_of)));
      })

-- ---- what is not split
module _ (f : Format) (x : ℕ) where
  pub zero_whole : magnitude f x ≡ 0 → (fraction f x ≡ x) × (exponent f x ≡ 0)
  zero_whole e = (fraction_whole f x whole ∙ rw (le-ltb (infinity f) (magnitude f x) (omega arith)), exponent_whole f x whole)
    where
      whole : unsplit f x ≡ true
      whole = rw (eq-eqb (magnitude f x) 0 e)

  unsplit_from : infinity f ≤ magnitude f x → unsplit f x ≡ true
  unsplit_from h = rw (le-leb (infinity f) (magnitude f x) h) (or_true (eqb (magnitude f x) 0))
    where
      or_true : (b : Bool) → b || true ≡ true
      or_true true = refl
      or_true false = refl

  pub infinity_whole : magnitude f x ≡ infinity f → (fraction f x ≡ x) × (exponent f x ≡ 0)
  infinity_whole e =
      let u = unsplit_from (le_of_eq (sym e)) in
      (fraction_whole f x u ∙ rw (le-ltb (infinity f) (magnitude f x) (le_of_eq e)), exponent_whole f x u)

  pub nan_whole : is_nan f x ≡ true → (fraction f x ≡ nan f) × (exponent f x ≡ 0)
  nan_whole i =
      let u = unsplit_from (omega (arith, ltb-true (infinity f) (magnitude f x) i)) in
      (fraction_whole f x u ∙ rw i, exponent_whole f x u)
