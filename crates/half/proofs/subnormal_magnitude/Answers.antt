-- `half::subnormal_magnitude` meets its contract: the magnitude that it returns has the size of a subnormal half, and no other has. What is no subnormal fits too. Assumes nothing.
use mathlib.Core.Path.{◌≡◌, sym, ap, ◌∙◌}
use native.Mathlib.Omega.{arith}
use Prim.Native.Nat.{ℕ, ◌+◌, ◌-◌, ◌*◌, ◌%◌, ◌^◌, ◌≤◌, ◌<◌}
use native.Mathlib.Nat.{mul_assoc, lt_of_lt_of_le, le_of_eq, lt_of_not-le, not-le_of_lt, mul-lt-mul_of_pos_right, mod-eq_of_lt}
use lib.Dec.{lit≤}
use lib.Pow.{pow-add, pow_pos, pow_mono}
use lib.Count.{count_leading_zeros, leading_length}
use Rattle.half.specs.Format.{f16, f32}
use Rattle.half.specs.Convert.{converted_magnitude}
use Rattle.half.proofs.Sizes.{units_small, units_full}
use Rattle.half.proofs.Leading.{zeros, Leading, leading}
use Rattle.half.proofs.Single.{of_size}
use Rattle.half.proofs.subnormal_magnitude.Goals as goal
use Rattle.half.proofs.subnormal_magnitude.Goals.{Start}

-- ---- any magnitude: l zeros stand in front of its digits, and moved by l - 8 places they stay below 2^24
record Moved (m l : ℕ) : Type 0 where
  least : 17 ≤ l
  most : l ≤ 32
  small : m * 2 ^ (l - 8) < 2 ^ 24

moved : (m : ℕ) → m < 0x8000 → Moved m (count_leading_zeros 32 m)
moved m h =
    let r = leading_length 32 m (omega arith) in
    let few : r.0 < 16 = lt_of_not-le (λ (g : 16 ≤ r.0). not-le_of_lt (omega (arith, r.3, pow_mono g)) r.3) in
    let l = count_leading_zeros 32 m in
    let e : r.0 + (l - 8) ≡ 24 = omega (arith, r.1) in
    record {
      least = omega (arith, r.1);
      most = omega (arith, r.1);
      small = lt_of_lt_of_le (mul-lt-mul_of_pos_right r.2 (pow_pos (l - 8))) (le_of_eq (sym (pow-add 2 r.0 (l - 8)) ∙ ap (λ (x : ℕ). 2 ^ x) e));
    }

-- ---- a subnormal half: l zeros stand in front of its digits, and l - 8 places bring the first one to the leading place
record Digits (m l : ℕ) : Type 0 where
  least : 22 ≤ l
  most : l ≤ 31
  led : Leading 23 m (l - 8)

digits : (m : ℕ) → (m ≡ 0 → ⊥) → m < 0x400 → Digits m (count_leading_zeros 32 m)
digits m n h =
    let some : 0 < m = omega arith in
    let z = zeros 10 m some h (lit≤ tt) in
    let least : 22 ≤ count_leading_zeros 32 m = omega (arith, z.0) in
    record { least = least; most = z.1; led = leading 23 m (count_leading_zeros 32 m - 8) some (omega arith) (lit≤ tt) (omega arith) }

subnormal : (m l : ℕ) → m < 0x400 → Digits m l → (133 - l) * 0x80_0000 + m * 2 ^ (l - 8) ≡ converted_magnitude f16 f32 m
subnormal m l h d =
    of_size m ((133 - l) * 0x80_0000 + m * 2 ^ (l - 8)) (omega arith)
    (units_full f32 (133 - l) (m * 2 ^ (l - 8)) d.led.low (omega (arith, d.led.high))
    ∙ mul_assoc m (2 ^ (l - 8)) (2 ^ (133 - l))
    ∙ ap (λ (x : ℕ). m * x) (sym (pow-add 2 (l - 8) (133 - l)) ∙ ap (λ (x : ℕ). 2 ^ x) (sum l d.least d.most))
    ∙ ap (λ (x : ℕ). x * 2 ^ 125) (sym (units_small f16 m h)))
  where
    sum : (l : ℕ) → 22 ≤ l → l ≤ 31 → l - 8 + (133 - l) ≡ 125
    sum l h k = omega arith

moved_at : (c : Start) → Moved c.args.m (count_leading_zeros 32 c.args.m)
moved_at c = moved c.args.m c.requires

kept : (c : Start) → (c.args.m * 2 ^ (count_leading_zeros 32 c.args.m - 8)) % 2 ^ 32 ≡ c.args.m * 2 ^ (count_leading_zeros 32 c.args.m - 8)
kept c = mod-eq_of_lt (omega (arith, (moved_at c).small))

pub overflow_sub-result : goal.overflow_sub-result
overflow_sub-result c = omega (arith, (moved_at c).most)

pub overflow_sub-result-2 : goal.overflow_sub-result-2
overflow_sub-result-2 c = omega (arith, (moved_at c).least)

pub overflow_shl-result : goal.overflow_shl-result
overflow_shl-result c = omega (arith, (moved_at c).most)

pub overflow_add-result : goal.overflow_add-result
overflow_add-result c = omega (arith, kept c, (moved_at c).small, (moved_at c).least)

pub returns : goal.returns
returns c =
    let m = c.args.m in
    let l = count_leading_zeros 32 m in (
      (λ some few. ap (λ (x : ℕ). (133 - l) * 0x80_0000 + x) (kept c) ∙ subnormal m l few (digits m (λ z. omega arith) few)),
      omega (arith, kept c, (moved_at c).small, (moved_at c).least),
    )
