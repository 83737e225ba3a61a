-- The leading zeros of a number of 32 bits, and the shift that takes its first digit to a place. The first digit stands at j, with 31 - j zeros
-- before it, so that p - j places take it to p. Assumes nothing.
use mathlib.Core.Path.{◌≡◌, sym, ap, ◌∙◌}
use Prim.Native.Nat.{ℕ, suc, ◌+◌, ◌*◌, ◌%◌, ◌^◌, ◌≤◌, ◌<◌}
use native.Mathlib.Nat.{le_trans, le_of_eq, lt_of_lt_of_le, lt_of_not-le, not-le_of_lt, mul-le-mul_right, mul-lt-mul_of_pos_right}
use native.Mathlib.Omega.{arith}
use lib.Pow.{pow_pos, pow_mono, pow-add, shl_exact}
use lib.Count.{count_leading_zeros, leading_top}

pub zeros : (p m : ℕ) → 0 < m → m < 2 ^ p → p ≤ 32 → (32 ≤ count_leading_zeros 32 m + p) × (count_leading_zeros 32 m ≤ 31)
zeros p m n h k =
    let r = leading_top 32 m n (lt_of_lt_of_le h (pow_mono k)) in
    let few : r.0 < p = lt_of_not-le (λ (g : p ≤ r.0). not-le_of_lt (lt_of_lt_of_le h (pow_mono g)) r.2) in
    (omega (arith, r.1), omega (arith, r.1))

-- moved by d places the first digit of m stands at p, and none is lost
pub record Leading (p m d : ℕ) : Type 0 where
  pub low : 2 ^ p ≤ m * 2 ^ d
  pub high : m * 2 ^ d < 2 ^ suc p
  pub shifted : (m * 2 ^ d) % 2 ^ 32 ≡ m * 2 ^ d

pub leading : (p m d : ℕ) → 0 < m → m < 2 ^ 32 → p ≤ 31 → count_leading_zeros 32 m + p ≡ d + 31 → Leading p m d
leading p m d n h k e =
    let r = leading_top 32 m n h in
    let j = r.0 in
    let at : p ≡ j + d = omega (arith, r.1) in
    record {
      low = le_trans (le_of_eq (ap (λ (x : ℕ). 2 ^ x) at ∙ pow-add 2 j d)) (mul-le-mul_right (2 ^ d) r.2);
      high = lt_of_lt_of_le (mul-lt-mul_of_pos_right r.3 (pow_pos d)) (le_of_eq (sym (pow-add 2 (suc j) d) ∙ ap (λ (x : ℕ). 2 ^ x) (past j d p at)));
      shifted = shl_exact (suc j) d 32 r.3 (omega arith);
    }
  where
    past : (j d p : ℕ) → p ≡ j + d → suc j + d ≡ suc p
    past j d p e = omega arith
