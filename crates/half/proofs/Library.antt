-- The language's own floats agree: the bits of its `round` at binary32 are `magnitude_of f32` with the sign, and its value of an f32's bits has the
-- size `units f32`. Both sides drop the same digits by the same `closest`; what is left is where the infinity begins. Assumes nothing.
use mathlib.Core.Path.{◌≡◌, refl, sym, ap, ◌∙◌, subst}
use mathlib.Core.Logic.{inl, inr}
use Prim.Native.Nat.{ℕ, zero, suc, ◌+◌, ◌-◌, ◌*◌, ◌/◌, ◌%◌, ◌^◌, ◌≤◌, ◌<◌, min}
use native.Mathlib.Nat.{le_of_eq, le_of_lt, lt_of_lt_of_le, lt_of_le_of_lt, lt_irrefl, mul-one, mul-div_cancel, min-eq_left, min-eq_right}
use native.Mathlib.Omega.{arith}
use mathlib.Core.Bool.{Bool, true, false, not, cond}
use borrow.Author.Tests.{ne_eqb}
use lib.Dec.{T, ltb, eqb, ltb→lt, nltb→le}
use lib.Ieee as ieee
use lib.Ieee.{Float, nan, inf, fin, binary32, up, down, size, odd, round, of_fields, of_bits, to_bits}
use lib.Ieee.Fits.{round_is, down_pos}
use lib.Ieee.Exact.{HasValue, odd_sign}
use lib.Ieee.Bits.{to_bits-of_bits, nan_bits_is, nan_bits_above}
use lib.Ieee.Nearest.{closest}
use Rattle.half.specs.Format.{f32, infinity, magnitude, negative, signed, is_nan, fields, units, pattern, rounded, magnitude_of}
use Rattle.half.proofs.Closest.{split}
use Rattle.half.proofs.Sizes.{Placed, units_pattern, units_lt, lt_of_units}
use Rattle.half.proofs.Rounding.{dropped, unit, rounded_placed}

-- ---- bits of a value
bits_of_value : (x : Float) (s : Bool) (u : ℕ) → HasValue x s u (2 ^ 149) → to_bits binary32 x ≡ signed f32 s (pattern f32 u)
unfolding to_bits pattern
bits_of_value nan s u v = absurd v
bits_of_value (inf t) s u v = absurd v
bits_of_value (fin t m e) s u v =
    let n : m * up e * 2 ^ 149 / down e ≡ u = ap (λ (z : ℕ). z / down e) v.1 ∙ mul-div_cancel u (down_pos e) in
    ap (λ (b : Bool). cond b 0x8000_0000 0 + (size (m * up e * 2 ^ 149 / down e) - 24) * 0x80_0000 + m * up e * 2 ^ 149 / down e / 2 ^ (size (m * up e * 2 ^ 149 / down e) - 24)) v.0
    ∙ ap (λ (z : ℕ). cond s 0x8000_0000 0 + (size z - 24) * 0x80_0000 + z / 2 ^ (size z - 24)) n
    ∙ assoc (cond s 0x8000_0000 0) ((size u - 24) * 0x80_0000) (u / 2 ^ (size u - 24))
  where
    assoc : (a b c : ℕ) → a + b + c ≡ a + (b + c)
    assoc a b c = omega arith

bits_of_infinity : (s : Bool) → to_bits binary32 (inf s) ≡ signed f32 s (infinity f32)
unfolding to_bits
bits_of_infinity true = refl
bits_of_infinity false = refl

-- 2 ^ 277 units are the size at which the infinity stands
finite_below : (u : ℕ) → units f32 (pattern f32 u) ≡ u → u < 2 ^ 277 → pattern f32 u < infinity f32
unfolding fields
finite_below u e h = lt_of_units f32 (pattern f32 u) (infinity f32) (lt_of_le_of_lt (le_of_eq e) h)

infinite_from : (u : ℕ) → units f32 (pattern f32 u) ≡ u → 2 ^ 277 ≤ u → infinity f32 ≤ pattern f32 u
unfolding fields
infinite_from u e h =
    elim (split (pattern f32 u) (infinity f32)) [
      | inr g ↦ g
      | inl l ↦ absurd (lt_irrefl u (lt_of_lt_of_le (lt_of_le_of_lt (le_of_eq (sym e)) (units_lt f32 (pattern f32 u) (infinity f32) l)) h))
    ]

of_units : (s : Bool) (k q : ℕ) → Placed f32 k q → to_bits binary32 (ieee.units binary32 s q k) ≡ signed f32 s (min (pattern f32 (q * 2 ^ k)) (infinity f32))
of_units s k q p = unfold ieee.units in go (ltb (q * 2 ^ k) (2 ^ 277)) (ltb→lt (q * 2 ^ k) (2 ^ 277)) (nltb→le (q * 2 ^ k) (2 ^ 277))
  where
    same : units f32 (pattern f32 (q * 2 ^ k)) ≡ q * 2 ^ k
    same = units_pattern f32 k q p.most

    go : (t : Bool) → (T t → q * 2 ^ k < 2 ^ 277) → (T (not t) → 2 ^ 277 ≤ q * 2 ^ k) → to_bits binary32 (cond t (odd 25 s q k 149) (inf s)) ≡ signed f32 s (min (pattern f32 (q * 2 ^ k)) (infinity f32))
    go true l h = bits_of_value (odd 25 s q k 149) s (q * 2 ^ k) (odd_sign 25 s q k 149) ∙ ap (signed f32 s) (sym (min-eq_left (le_of_lt (finite_below (q * 2 ^ k) same (l tt)))))
    go false l h = bits_of_infinity s ∙ ap (signed f32 s) (sym (min-eq_right (infinite_from (q * 2 ^ k) same (h tt))))

pub round_bits : (s : Bool) (a b : ℕ) → to_bits binary32 (round binary32 s a b) ≡ signed f32 s (magnitude_of f32 (a * 2 ^ 149) b)
unfolding rounded magnitude_of
round_bits s a b = ap (to_bits binary32) (round_is binary32 s a b) ∙ of_units s (dropped f32 (a * 2 ^ 149) b) (closest (a * 2 ^ 149) (unit f32 (a * 2 ^ 149) b)) (rounded_placed f32 (a * 2 ^ 149) b)

-- ---- value of bits
fields_value : (s : Bool) (x t : ℕ) → x < 255 → HasValue (of_fields binary32 s x t) s (fields f32 x t) (2 ^ 149)
unfolding of_fields fields
fields_value s zero t h = subst (λ (n : ℕ). HasValue (odd 24 s t 0 149) s n (2 ^ 149)) (mul-one t) (odd_sign 24 s t 0 149)
fields_value s (suc x) t h =
    subst (λ (b : Bool). HasValue (cond b (cond (eqb t 0) (inf s) nan) (odd 24 s (0x80_0000 + t) x 149)) s ((0x80_0000 + t) * 2 ^ x) (2 ^ 149))
    (sym (ne_eqb (suc x) 255 (differ x h))) (odd_sign 24 s (0x80_0000 + t) x 149)
  where
    differ : (x : ℕ) → suc x < 255 → suc x ≡ 255 → ⊥
    differ x h e = omega arith

pub bits_value : (n : ℕ) → magnitude f32 n < infinity f32 → HasValue (of_bits binary32 n) (negative f32 n) (units f32 (magnitude f32 n)) (2 ^ 149)
unfolding of_bits
bits_value n h =
    subst (λ (t : ℕ). HasValue (of_fields binary32 (negative f32 n) (n % 0x8000_0000 / 0x80_0000) (n % 0x80_0000)) (negative f32 n) (fields f32 (n % 0x8000_0000 / 0x80_0000) t) (2 ^ 149)) (low n)
    (fields_value (negative f32 n) (n % 0x8000_0000 / 0x80_0000) (n % 0x80_0000) (omega arith))
  where
    low : (n : ℕ) → n % 0x80_0000 ≡ n % 0x8000_0000 % 0x80_0000
    low n = omega arith

-- ---- bits of the value of bits
pub bits_back : (n : ℕ) → n < 2 ^ 32 → is_nan f32 n ≡ false → to_bits binary32 (of_bits binary32 n) ≡ n
bits_back n h e = to_bits-of_bits binary32 n h (subst (λ (b : Bool). T (not b)) (sym (sym (nan_bits_is binary32 n) ∙ nan_bits_above binary32 n ∙ e)) tt)
