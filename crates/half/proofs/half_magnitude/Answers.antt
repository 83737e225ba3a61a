-- `half::half_magnitude` meets its contract. From 2 ^ -14 up 13 of the 24 digits are dropped, below it as many as leave units of 2 ^ -24, and
-- under 2 ^ -25 the fraction of a unit is less than a half. Assumes nothing.
use mathlib.Core.Path.{◌≡◌, refl, sym, ap, ◌∙◌, subst}
use mathlib.Core.Bool.{Bool, true, false, cond}
use mathlib.Core.Logic.{inl, inr}
use native.Mathlib.Omega.{arith}
use Prim.Native.Nat.{ℕ, ◌+◌, ◌-◌, ◌*◌, ◌/◌, ◌%◌, ◌^◌, ◌≤◌, ◌<◌, min}
use native.Mathlib.Nat.{le_trans, lt_of_lt_of_le, mul_assoc, one-mul, mul-le-mul_left, min-eq_left, min-eq_right, mul-lt-mul_of_pos_right}
use borrow.Author.Tests.{ltb-true, ltb-false}
use lib.Dec.{lit≤, ltb}
use lib.Pow.{pow_pos, pow_mono, pow-add, shl_exact}
use lib.Ieee.Nearest.{closest}
use Rattle.half.specs.Format.{f16, f32, fields, units, pattern, rounded, magnitude_of}
use Rattle.half.specs.Convert.{converted_magnitude}
use Rattle.half.proofs.Ranges.{beside, not_beside}
use Rattle.half.proofs.Closest.{split, closest_range, closest_add}
use Rattle.half.proofs.Sizes.{pattern_up_to, pattern_small, units_full, units_lt}
use Rattle.half.proofs.Rounding.{rounded_drop, rounded_keep, rounded_none}
use Rattle.half.proofs.Conversion.{finite_is, infinite_is}
use Rattle.half.proofs.half_magnitude.Goals as goal
use Rattle.half.proofs.half_magnitude.Goals.{After-places_off}

-- the digits of a normal f32, the leading one with them
abbrev digits : ℕ → ℕ
digits m = m % 0x80_0000 + 0x80_0000

-- they and the power of two behind them, in a half's units over 2 ^ 149
lead : (m : ℕ) → 0x80_0000 ≤ m → units f32 m * 2 ^ 24 ≡ digits m * 2 ^ (m / 0x80_0000 - 1 + 24)
lead m h =
    let t = digits m in
    let k = m / 0x80_0000 - 1 in
    ap (λ (u : ℕ). u * 2 ^ 24) (ap (units f32) (joined m h) ∙ units_full f32 k t (omega arith) (omega arith))
    ∙ mul_assoc t (2 ^ k) (2 ^ 24)
    ∙ ap (λ (u : ℕ). t * u) (sym (pow-add 2 k 24))
  where
    joined : (m : ℕ) → 0x80_0000 ≤ m → m ≡ (m / 0x80_0000 - 1) * 0x80_0000 + digits m
    joined m h = omega arith

module _ (m : ℕ) where
  kept_range : (0x400 ≤ closest (digits m) 8192) × (closest (digits m) 8192 ≤ 0x800)
  kept_range = closest_range (digits m) 8192 0x400 0x800 (omega arith) (omega arith) (omega arith)

  dropped_13 : 0x3880_0000 ≤ m → pattern f16 (rounded f16 (units f32 m * 2 ^ 24) (2 ^ 149)) ≡ closest (m - 0x3800_0000) 8192
  dropped_13 h =
      let e = m / 0x80_0000 in
      let t = digits m in
      ap (λ (u : ℕ). pattern f16 (rounded f16 u (2 ^ 149))) (lead m (omega arith))
      ∙ ap (pattern f16) (rounded_drop f16 13 t (e - 1 + 24) 149 (e - 113) (omega arith) (omega arith) (moved e (omega arith)))
      ∙ pattern_up_to f16 (e - 113) (closest t 8192) kept_range.0 kept_range.1
      ∙ ap (λ (x : ℕ). x + closest t 8192) (twice (e - 113))
      ∙ sym (closest_add ((e - 113) * 512) t 8192 (omega arith))
      ∙ ap (λ (x : ℕ). closest x 8192) (joined m h)
    where
      moved : (e : ℕ) → 113 ≤ e → e - 1 + 24 + 13 ≡ 149 + (e - 113)
      moved e h = omega arith

      twice : (x : ℕ) → x * 1024 ≡ x * 512 * 2
      twice x = omega arith

      joined : (m : ℕ) → 0x3880_0000 ≤ m → (m / 0x80_0000 - 113) * 512 * 2 * 8192 + digits m ≡ m - 0x3800_0000
      joined m h = omega arith

  normal : 0x3880_0000 ≤ m → m < 0x4780_0000 → closest (m - 0x3800_0000) 8192 ≡ converted_magnitude f32 f16 m
  unfolding magnitude_of
  normal h k =
      let q : closest (m - 0x3800_0000) 8192 ≤ 0x7c00 = (closest_range (m - 0x3800_0000) 8192 0 0x7c00 (omega arith) (omega arith) (omega arith)).1 in
      sym (finite_is f32 f16 m (omega arith) ∙ ap (λ (x : ℕ). min x 0x7c00) (dropped_13 h) ∙ min-eq_left q)

  big : 0x4780_0000 ≤ m → 0x7c00 ≡ converted_magnitude f32 f16 m
  unfolding magnitude_of
  big h =
      elim (split m 0x7f80_0000) [
        | inr g ↦ sym (infinite_is f32 f16 m g)
        | inl l ↦
            let q : 0x7c00 ≤ closest (m - 0x3800_0000) 8192 = (closest_range (m - 0x3800_0000) 8192 0x7c00 0x10_0000 (omega arith) (omega arith) (omega arith)).0 in
            sym (finite_is f32 f16 m l ∙ ap (λ (x : ℕ). min x 0x7c00) (dropped_13 (omega arith)) ∙ min-eq_right q)
      ]

  subnormal : 0x3300_0000 ≤ m → m < 0x3880_0000 → closest (digits m) (2 ^ (126 - m / 0x80_0000)) ≡ converted_magnitude f32 f16 m
  unfolding magnitude_of
  subnormal h k =
      let e = m / 0x80_0000 in
      let t = digits m in
      let s = 126 - e in
      let q : closest t (2 ^ s) ≤ 0x800 = (closest_range t (2 ^ s) 0 0x800 (pow_pos s) (omega arith) (lt_of_lt_of_le below (le_trans (lit≤ tt) (mul-le-mul_left 0x800 (pow_mono {i = 13} {j = s} (omega arith)))))).1 in
      sym
      (finite_is f32 f16 m (omega arith)
      ∙ ap (λ (u : ℕ). min (pattern f16 (rounded f16 u (2 ^ 149))) 0x7c00) (lead m (omega arith))
      ∙ ap (λ (u : ℕ). min (pattern f16 u) 0x7c00) (rounded_keep f16 t (e - 1 + 24) 149 s (lt_of_lt_of_le below (pow_mono {i = 24} {j = 11 + s} (omega arith))) (moved e (omega arith) (omega arith)))
      ∙ ap (λ (x : ℕ). min x 0x7c00) (pattern_small f16 (closest t (2 ^ s)) q)
      ∙ min-eq_left (le_trans q (lit≤ tt)))
    where
      below : digits m < 2 ^ 24
      below = omega arith

      moved : (e : ℕ) → 1 ≤ e → e ≤ 126 → e - 1 + 24 + (126 - e) ≡ 149
      moved e h k = omega arith

  tiny : m < 0x3300_0000 → 0 ≡ converted_magnitude f32 f16 m
  unfolding magnitude_of fields
  tiny h =
      sym
      (finite_is f32 f16 m (omega arith)
      ∙ ap (λ (u : ℕ). min (pattern f16 u) 0x7c00) (rounded_none f16 (units f32 m * 2 ^ 24) (2 ^ 149) (lt_of_lt_of_le (mul-lt-mul_of_pos_right (mul-lt-mul_of_pos_right (units_lt f32 m 0x3300_0000 h) (pow_pos 24)) (omega arith)) (lit≤ tt)))
      ∙ ap (λ (x : ℕ). min x 0x7c00) (pattern_small f16 0 (omega arith)))

-- ---- what is rounded off: s places
abbrev places : ℕ → ℕ
places m = cond (ltb m 0x3880_0000) (126 - m / 0x80_0000) 13

abbrev rounded_digits : ℕ → ℕ
rounded_digits m = cond (ltb m 0x3880_0000) (digits m) (m - 0x3800_0000)

module _ (m : ℕ) (h : 0x3300_0000 ≤ m) (k : m < 0x4780_0000) where
  most : places m ≤ 24
  most = go (ltb m 0x3880_0000)
    where
      go : (b : Bool) → cond b (126 - m / 0x80_0000) 13 ≤ 24
      go true = omega arith
      go false = lit≤ tt

  few : rounded_digits m < 0x8000_0000
  few = go (ltb m 0x3880_0000)
    where
      go : (b : Bool) → cond b (digits m) (m - 0x3800_0000) < 0x8000_0000
      go true = omega arith
      go false = omega arith

  -- 1 << s
  shifted : (1 * 2 ^ places m) % 2 ^ 32 ≡ 2 ^ places m
  shifted = shl_exact 1 (places m) 32 (omega (arith, most)) (omega (arith, most)) ∙ one-mul (2 ^ places m)

  shifted_most : 2 ^ places m ≤ 0x0100_0000
  shifted_most = le_trans (pow_mono {i = places m} {j = 24} most) (lit≤ tt)

  near : closest (rounded_digits m) (2 ^ places m) ≡ converted_magnitude f32 f16 m
  near = go (ltb m 0x3880_0000) refl
    where
      go : (b : Bool) → ltb m 0x3880_0000 ≡ b → closest (cond b (digits m) (m - 0x3800_0000)) (2 ^ cond b (126 - m / 0x80_0000) 13) ≡ converted_magnitude f32 f16 m
      go true e = subnormal m h (ltb-true m 0x3880_0000 e)
      go false e = normal m (ltb-false m 0x3880_0000 e) k

pub returns-then-m-lt855638016 : goal.returns-then-m-lt855638016
returns-then-m-lt855638016 c = tiny _ c.if-m-lt855638016.true

pub returns-then-m : goal.returns-then-m
returns-then-m c = big _ (beside 0x3300_0000 0x4780_0000 _ c.if-m.true c.if-m-lt855638016.false)

in_range : (c : After-places_off) → let m = c.args.m in (0x3300_0000 ≤ m) × (m < 0x4780_0000)
in_range c = not_beside 0x3300_0000 0x4780_0000 _ c.if-m.false

unit_is : (c : After-places_off) → 1 * 2 ^ c.places_off.result % 2 ^ 32 ≡ 2 ^ places c.args.m
unit_is c = ap (λ (s : ℕ). 1 * 2 ^ s % 2 ^ 32) c.places_off.ensures ∙ shifted _ (in_range c).0 (in_range c).1

pub overflow_shl-places_off : goal.overflow_shl-places_off
overflow_shl-places_off c = omega (arith, c.places_off.ensures, most _ (in_range c).0 (in_range c).1)

pub nearest_div-requires : goal.nearest_div-requires
nearest_div-requires c =
    let r = in_range c in (
      omega (arith, c.digits_of.ensures, few _ r.0 r.1),
      subst (λ (d : ℕ). 0 < d) (sym (unit_is c)) (pow_pos (places c.args.m)),
      subst (λ (d : ℕ). d ≤ 0x0100_0000) (sym (unit_is c)) (shifted_most _ r.0 r.1),
    )

pub returns : goal.returns
returns c =
    c.nearest_div.ensures
    ∙ ap (λ (t : ℕ). closest t (1 * 2 ^ c.places_off.result % 2 ^ 32)) c.digits_of.ensures
    ∙ ap (closest (rounded_digits c.args.m)) (unit_is (goal.at.returns c).After-places_off)
    ∙ near _ (in_range (goal.at.returns c).After-places_off).0 (in_range (goal.at.returns c).After-places_off).1
