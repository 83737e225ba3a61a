-- 1 / 2 + a / d, or 1 / 2 - a / d, rounded down: it is n, or minus n, where n differs from a / d by at most 1 / 2. Before the remainder is taken it is W + n or
-- W - n, which rises with the fraction. Assumes nothing.
use mathlib.Core.Path.{◌≡◌, sym, ap, ◌∙◌}
use Prim.Native.Nat.{ℕ, ◌+◌, ◌-◌, ◌*◌, ◌/◌, ◌%◌, ◌≤◌, ◌<◌}
use native.Mathlib.Nat.{le_trans, le_of_eq, lt_of_lt_of_le, one-mul, mul_comm, mul_assoc, mul_left_comm, add-mul, mul-div-mul_right, div-eq_of_lt-le, div-mul-le_self, lt-mul-div-succ, le-div_iff_mul-le, div-lt_iff_lt-mul, mod_self}
use native.Mathlib.Omega.{arith}
use mathlib.Core.Bool.{Bool, true, false, cond}
use Rattle.floats.proofs.Sums.{sub_mul}
use Rattle.exact.specs.Exact.{floor_half}

-- W and the half above it, with the fraction, in parts of d
abbrev pub sum : ℕ → Bool → ℕ → ℕ → ℕ
sum W s a d = cond s ((2 * W + 1) * d - 2 * a) ((2 * W + 1) * d + 2 * a)

abbrev pub raised : ℕ → Bool → ℕ → ℕ → ℕ
raised W s a d = sum W s a d / (2 * d)

-- ---- a / d alone matters
sum_scaled : (W : ℕ) (s : Bool) (a d z : ℕ) → sum W s (a * z) (d * z) ≡ sum W s a d * z
sum_scaled W false a d z = rw (← mul_assoc (2 * W + 1) d z, ← mul_assoc 2 a z) (sym (add-mul ((2 * W + 1) * d) (2 * a) z))
sum_scaled W true a d z = rw (← mul_assoc (2 * W + 1) d z, ← mul_assoc 2 a z) (sym (sub_mul ((2 * W + 1) * d) (2 * a) z))

pub scaled : (W : ℕ) (s : Bool) (a d z : ℕ) → 0 < z → floor_half W s (a * z) (d * z) ≡ floor_half W s a d
unfolding floor_half
scaled W s a d z Z = ap (λ (q : ℕ). q % W) (ap (λ (x : ℕ). x / (2 * (d * z))) (sum_scaled W s a d z) ∙ ap (λ (x : ℕ). sum W s a d * z / x) (sym (mul_assoc 2 d z)) ∙ mul-div-mul_right (sum W s a d) (2 * d) Z)

-- ---- where W + 1 / 2 + a / d stands
twice : (k d : ℕ) → k * (2 * d) ≡ 2 * (k * d)
twice k d = mul_left_comm k 2 d

middle : (W d : ℕ) → (2 * W + 1) * d ≡ 2 * (W * d) + d
middle W d = simp (add-mul, mul_assoc, one-mul)

-- rounded down to W: less than a half
pub none : (W : ℕ) (s : Bool) (a d : ℕ) → 2 * a < d → floor_half W s a d ≡ 0
unfolding floor_half
none W s a d h = ap (λ (q : ℕ). q % W) (div-eq_of_lt-le {k = W} (2 * d) (low s) (high s)) ∙ mod_self W
  where
    low : (s : Bool) → W * (2 * d) ≤ sum W s a d
    low false = rw (twice W d, middle W d) (omega arith)
    low true = rw (twice W d, middle W d) (omega arith)

    high : (s : Bool) → sum W s a d < (W + 1) * (2 * d)
    high false = rw (twice (W + 1) d, middle W d, add-mul W 1 d, one-mul d) (omega arith)
    high true = rw (twice (W + 1) d, middle W d, add-mul W 1 d, one-mul d) (omega arith)

-- n is within a half of a / d
pub record Near (n a d : ℕ) : Type 0 where
  pub low : 2 * (n * d) ≤ 2 * a + d
  pub high : 2 * a ≤ 2 * (n * d) + d

pub record Place (W : ℕ) (s : Bool) (a d : ℕ) : Type 0 where
  pub n : ℕ
  pub place : raised W s a d ≡ cond s (W - n) (W + n)
  pub most : cond s n 0 ≤ W
  pub near : Near n a d

module _ (W a d : ℕ) (D : 0 < d) (h : a ≤ W * d) where
  parts : (s : Bool) → (2 * (raised W s a d * d) ≤ sum W s a d) × (sum W s a d < 2 * (raised W s a d * d) + 2 * d)
  parts s =
      let q = raised W s a d in (
        le_trans (le_of_eq (sym (twice q d))) (div-mul-le_self (sum W s a d) (2 * d)),
        lt_of_lt_of_le (lt-mul-div-succ (sum W s a d) {b = 2 * d} (omega arith)) (le_of_eq (next q d)),
      )
    where
      next : (q d : ℕ) → 2 * d * (q + 1) ≡ 2 * (q * d) + 2 * d
      next q d = mul_comm (2 * d) (q + 1) ∙ simp (add-mul, one-mul, twice q d)

  pub place_of_lem : (s : Bool) → Place W s a d
  place_of_lem false =
      let q = raised W false a d in
      let p = parts false in
      let reach : W ≤ q = (le-div_iff_mul-le {k = 2 * d} (omega arith)).1 (rw (twice W d, middle W d) (omega arith)) in
      let e : q ≡ W + (q - W) = omega arith in
      let f : q * d ≡ W * d + (q - W) * d = ap (λ (x : ℕ). x * d) e ∙ add-mul W (q - W) d in
      record {
        n = q - W;
        place = e;
        most = omega arith;
        near = let k = go (q * d) ((q - W) * d) f p.0 p.1 in record { low = k.0; high = k.1 };
      }
    where
      go : (x y : ℕ) → x ≡ W * d + y → 2 * x ≤ (2 * W + 1) * d + 2 * a → (2 * W + 1) * d + 2 * a < 2 * x + 2 * d → (2 * y ≤ 2 * a + d) × (2 * a ≤ 2 * y + d)
      go x y f l u = let m = middle W d in (omega arith, omega arith)
  place_of_lem true =
      let q = raised W true a d in
      let p = parts true in
      let reach : q ≤ W = le_of_next q W ((div-lt_iff_lt-mul {k = 2 * d} (omega arith)).1 (rw (twice (W + 1) d, middle W d, add-mul W 1 d, one-mul d) (omega arith))) in
      let e : W ≡ q + (W - q) = omega arith in
      let f : W * d ≡ q * d + (W - q) * d = ap (λ (x : ℕ). x * d) e ∙ add-mul q (W - q) d in
      record {
        n = W - q;
        place = omega arith;
        most = omega arith;
        near = let k = go (q * d) ((W - q) * d) f p.0 p.1 in record { low = k.0; high = k.1 };
      }
    where
      le_of_next : (x y : ℕ) → x < y + 1 → x ≤ y
      le_of_next x y h = omega arith

      go : (x y : ℕ) → W * d ≡ x + y → 2 * x ≤ (2 * W + 1) * d - 2 * a → (2 * W + 1) * d - 2 * a < 2 * x + 2 * d → (2 * y ≤ 2 * a + d) × (2 * a ≤ 2 * y + d)
      go x y f l u = let m = middle W d in (omega arith, omega arith)
