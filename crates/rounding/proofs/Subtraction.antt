-- fract as the program works it out. IEEE 754's subtraction of a number and its floor rounds their distance once, and what is not finite gives the NaN.
-- What is left of a half has at most 24 digits, all of which an f32 keeps: only the way back to the half rounds. Assumes nothing.
use mathlib.Core.Path.{◌≡◌, refl, sym, ap, ap₂, ◌∙◌, subst}
use mathlib.Core.Logic.{inl, inr}
use Prim.Native.Nat.{ℕ, ◌*◌, ◌/◌, ◌%◌, ◌^◌, ◌≤◌, ◌<◌, min}
use native.Mathlib.Nat.{le_of_eq, le_of_lt, lt_of_le_of_lt, lt_of_lt_of_le, le_antisymm, mul-pos, mul_assoc, mul-one, mul-lt-mul_of_pos_right, min-eq_left, mod-eq_of_lt, zero-add}
use native.Mathlib.Omega.{arith}
use mathlib.Core.Bool.{Bool, true, false, not, cond}
use borrow.Author.Tests.{lt-ltb, le-ltb, le-leb, lt-leb}
use lib.Dec.{lit<, lit≤}
use lib.Pow.{pow_pos}
use lib.Ieee as Ieee
use lib.Ieee.Exact.{HasValue}
use lib.Ieee.{Float, inf, binary32, round, sum, add, sub, neg, of_fields, of_bits, to_bits}
use Rattle.half.specs.Format.{Format, f16, f32, top, infinity, nan, magnitude, negative, signed, is_nan, fields, units, pattern, magnitude_of}
use Rattle.half.specs.Convert.{converted_magnitude, half_of, single_of}
use Rattle.half.proofs.Closest.{split}
use Rattle.half.proofs.Sizes.{units_pattern, lt_of_units}
use Rattle.half.proofs.Rounding.{rounded_same, rounded_exact}
use Rattle.half.proofs.Signs.{number}
use Rattle.half.proofs.Conversion as conversion
use Rattle.half.proofs.Single.{single_nan, single_sign, single_infinity, single_exact}
use Rattle.half.proofs.Library.{bits_value, round_bits}
use Rattle.floats.proofs.Nan.{float_test, one_nan}
use Rattle.floats.proofs.Sums.{sum_same, add_value, neg_value}
use Rattle.rounding.specs.declared.Way.TheVariants.{Floor}
use Rattle.rounding.specs.Rounding.{one, whole_size, whole, above, fract_magnitude, fract}
use Rattle.rounding.specs.Neighbours.{Number}
use Rattle.rounding.specs.Laws.{Finite}
use Rattle.rounding.proofs.Ways.{floor_gap, above_scaled}
use Rattle.rounding.proofs.Results.{deep_f32, whole_past, number_is, result_finite}

pub fract_past : (f : Format) (x : ℕ) → infinity f ≤ magnitude f x → fract f x ≡ nan f
unfolding fract
fract_past f x h = rw (le-leb (infinity f) (magnitude f x) h)

pub fract_is : (f : Format) (x : ℕ) → Finite f x → fract f x ≡ fract_magnitude (negative f x) f (magnitude f x)
unfolding fract
fract_is f x h = rw (lt-leb (infinity f) (magnitude f x) h)

magnitude_same : (f : Format) (a c b d : ℕ) → 0 < c → 0 < d → a * d ≡ b * c → magnitude_of f a c ≡ magnitude_of f b d
unfolding magnitude_of
magnitude_same f a c b d C D e = ap (λ (u : ℕ). min (pattern f u) (infinity f)) (rounded_same f a c b d C D e)

-- ---- f32
difference : (g : Ieee.Format) (s : Bool) (a c d : ℕ) → 0 < c → sum g s a (not s) (whole_size Floor s a c * c) d ≡ round g false (above s a c) d
unfolding sum above
difference g false a c d C = rw (le-ltb a (whole_size Floor false a c * c) (omega (arith, (floor_gap false a c C).0)))
difference g true a c d C =
    let v = whole_size Floor true a c * c in
    let o : a ≤ v = omega (arith, (floor_gap true a c C).0) in
    elim (split a v) [
      | inl l ↦ rw (lt-ltb a v l)
      | inr e ↦ rw (le-ltb a v e, le-ltb v a o) (ap (λ (z : ℕ). round g false z d) (omega arith))
    ]

module _ (x : ℕ) where
  abbrev subtracted : ℕ
  subtracted = to_bits binary32 (sub binary32 (of_bits binary32 x) (of_bits binary32 (whole Floor f32 x)))

  subtracted_finite : Finite f32 x → subtracted ≡ fract f32 x
  unfolding sub fract_magnitude
  subtracted_finite h =
      let s = negative f32 x in
      let u = units f32 (magnitude f32 x) in
      let r = whole Floor f32 x in
      let v = whole_size Floor s u (one f32) * one f32 in
      let R = subst (λ (z : Number). HasValue (of_bits binary32 r) z.sign z.size (2 ^ 149)) (number_is f32 deep_f32 Floor x h) (bits_value r (result_finite f32 deep_f32 Floor x h)) in
      let a = above s u (one f32) in
      ap (to_bits binary32)
      (add_value binary32 (of_bits binary32 x) (neg (of_bits binary32 r)) s (not s) u (2 ^ 149) v (2 ^ 149) (pow_pos 149) (pow_pos 149) (bits_value x h) (neg_value (of_bits binary32 r) s v (2 ^ 149) R)
      ∙ sum_same binary32 s (not s) (u * 2 ^ 149) (v * 2 ^ 149) (2 ^ 149 * 2 ^ 149) u v (2 ^ 149) (mul-pos (pow_pos 149) (pow_pos 149)) (pow_pos 149) (mul_assoc u (2 ^ 149) (2 ^ 149)) (mul_assoc v (2 ^ 149) (2 ^ 149))
      ∙ difference binary32 s u (one f32) (2 ^ 149) (pow_pos 149))
      ∙ round_bits false a (2 ^ 149)
      ∙ zero-add (magnitude_of f32 (a * 2 ^ 149) (2 ^ 149))
      ∙ magnitude_same f32 (a * 2 ^ 149) (2 ^ 149) a 1 (pow_pos 149) (omega arith) (mul-one (a * 2 ^ 149))
      ∙ sym (fract_is f32 x h)

  infinite : magnitude f32 x ≡ infinity f32 → of_bits binary32 x ≡ inf (negative f32 x)
  unfolding of_bits of_fields
  infinite e =
      let z : x % 0x80_0000 ≡ 0 = omega arith in
      ap₂ (λ (k t : ℕ). of_fields binary32 (negative f32 x) k t) (ap (λ (m : ℕ). m / 0x80_0000) e) z

  minus_itself : (s : Bool) → to_bits binary32 (sub binary32 (inf s) (inf s)) ≡ nan f32
  unfolding sub add neg to_bits
  minus_itself true = refl
  minus_itself false = refl

  subtracted_undefined : infinity f32 ≤ magnitude f32 x → (b : Bool) → is_nan f32 x ≡ b → subtracted ≡ nan f32
  unfolding sub add to_bits
  subtracted_undefined h true e = rw (one_nan (of_bits binary32 x) (float_test x ∙ e))
  subtracted_undefined h false e =
      let i : whole Floor f32 x ≡ x = whole_past f32 Floor x h ∙ ap (λ (b : Bool). cond b (nan f32) x) e in
      ap (λ (r : ℕ). to_bits binary32 (sub binary32 (of_bits binary32 x) (of_bits binary32 r))) i
      ∙ ap (λ (y : Float). to_bits binary32 (sub binary32 y y)) (infinite (le_antisymm (number f32 x e) h))
      ∙ minus_itself (negative f32 x)

  pub subtracted_is : subtracted ≡ fract f32 x
  subtracted_is =
      elim (split (magnitude f32 x) (infinity f32)) [
        | inl h ↦ subtracted_finite h
        | inr g ↦ subtracted_undefined g (is_nan f32 x) refl ∙ sym (fract_past f32 x g)
      ]

-- ---- f16, by what is left of the f32: a units of a half, of which an f32's are 2 ^ 125 each
rounded_back : (a : ℕ) → a < 2 ^ 24 → half_of (magnitude_of f32 (a * 2 ^ 125) 1) ≡ magnitude_of f16 a 1
unfolding magnitude_of
rounded_back a h =
    let u = a * 2 ^ 125 in
    let r = pattern f32 u in
    let size : units f32 r ≡ u = units_pattern f32 125 a (le_of_lt h) in
    let finite : r < infinity f32 = lt_of_units f32 r (infinity f32) (lt_of_le_of_lt (le_of_eq size) (lt_of_lt_of_le (mul-lt-mul_of_pos_right h (pow_pos 125)) enough)) in
    let same : magnitude f32 r ≡ r = mod-eq_of_lt {n = r} {m = top f32} (omega arith) in
    ap half_of (ap (λ (z : ℕ). min (pattern f32 z) (infinity f32)) (rounded_exact f32 u 1 125 a (omega arith) h (sym (mul-one u))) ∙ min-eq_left (le_of_lt finite))
    ∙ conversion.number_is f32 f16 r (le-ltb (infinity f32) (magnitude f32 r) (omega arith))
    ∙ ap₂ (λ (s : Bool) (m : ℕ). signed f16 s m) (lt-leb (top f32) r (omega arith)) (ap (converted_magnitude f32 f16) same ∙ conversion.finite_is f32 f16 r finite)
    ∙ zero-add (magnitude_of f16 (units f32 r * 2 ^ 24) (2 ^ 149))
    ∙ ap (λ (z : ℕ). magnitude_of f16 (z * 2 ^ 24) (2 ^ 149)) size
    ∙ magnitude_same f16 (u * 2 ^ 24) (2 ^ 149) a 1 (pow_pos 149) (omega arith) (mul-one (u * 2 ^ 24) ∙ mul_assoc a (2 ^ 125) (2 ^ 24))
  where
    enough : 2 ^ 24 * 2 ^ 125 ≤ units f32 (infinity f32)
    enough = unfold fields in lit≤ tt

single_past : (x : ℕ) → infinity f16 ≤ magnitude f16 x → (b : Bool) → is_nan f16 x ≡ b → infinity f32 ≤ magnitude f32 (single_of x)
single_past x h true e = omega (arith, ap (magnitude f32) (single_nan x e))
single_past x h false e = le_of_eq (sym (single_infinity x (le_antisymm (number f16 x e) h)))

pub half_is : (x : ℕ) → half_of (fract f32 (single_of x)) ≡ fract f16 x
unfolding fract_magnitude
half_is x =
    elim (split (magnitude f16 x) (infinity f16)) [
      | inr g ↦ ap half_of (fract_past f32 (single_of x) (single_past x g (is_nan f16 x) refl)) ∙ conversion.nan_is f32 f16 (nan f32) (conversion.nan_is_nan f32 (lit< tt)) ∙ sym (fract_past f16 x g)
      | inl h ↦
          let s = negative f16 x in
          let u = units f16 (magnitude f16 x) in
          let E = single_exact x h in
          let S = single_sign x (le-ltb (infinity f16) (magnitude f16 x) (omega arith)) in
          ap half_of
          (fract_is f32 (single_of x) E.0 ∙ ap (λ (a : ℕ). magnitude_of f32 a 1) (ap₂ (λ (t : Bool) (z : ℕ). above t z (one f32)) S E.1 ∙ above_scaled s (2 ^ 125) (pow_pos 125) u (one f16)))
          ∙ rounded_back (above s u (one f16)) (floor_gap s u (one f16) (pow_pos 24)).1
          ∙ sym (fract_is f16 x h)
    ]
