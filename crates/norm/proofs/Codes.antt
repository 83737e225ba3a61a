-- The code of a float by the fraction that it equals: from 0 up the whole part of its size, below 0 what the size is rounded up to. Assumes nothing.
use mathlib.Core.Path.{◌≡◌, sym, ap, ◌∙◌, subst}
use Prim.Native.Nat.{ℕ, suc, ◌+◌, ◌-◌, ◌*◌, ◌/◌, ◌^◌, ◌≤◌, ◌<◌, min}
use native.Mathlib.Nat.{le_trans, le_of_eq, lt_of_lt_of_le, lt_of_le_of_lt, mul_right_comm, suc-mul, add-mul, one-mul, mul-le-mul_right, mul-lt-mul_of_pos_right, le_of_mul-le-mul_right, lt_of_mul-lt-mul_right, div-lt_iff_lt-mul, div-eq_of_lt-le}
use native.Mathlib.Numerals.{add-one}
use native.Mathlib.Omega.{arith}
use mathlib.Core.Bool.{Bool, true, false, true≢false}
use lib.IntN.{ℤ}
use lib.Pow.{pow_pos}
use lib.Ieee.{Float, nan, inf, fin, up, down}
use lib.Ieee.Fits.{down_pos}
use lib.Ieee.Exact.{HasValue}
use lib.Ieee.Nearest.{div_same}
use Rattle.norm.specs.Norm.{scale, depth, minus, floor_code}
use Rattle.norm.proofs.Fractions.{unit}

-- how a / d, which is u / l, compares with n
module _ (a d u l n : ℕ) (L : 0 < l) (same : a * l ≡ u * d) where
  most : u ≤ n * l → a ≤ n * d
  most h = le_of_mul-le-mul_right (le_trans (le_of_eq same) (le_trans (mul-le-mul_right d h) (le_of_eq (mul_right_comm n l d)))) L

  past : 0 < d → n * l < u → n * d < a
  past D h = lt_of_mul-lt-mul_right l (lt_of_le_of_lt (le_of_eq (mul_right_comm n d l)) (lt_of_lt_of_le (mul-lt-mul_of_pos_right h D) (le_of_eq (sym same))))

-- a / d rounded up
pub ceiling_most : (a d n : ℕ) → 0 < d → a ≤ n * d → (a + (d - 1)) / d ≤ n
ceiling_most a d n D h = below ((a + (d - 1)) / d) n ((div-lt_iff_lt-mul D).1 (short a d n h D))
  where
    below : (x n : ℕ) → x < suc n → x ≤ n
    below x n h = omega arith

    short : (a d n : ℕ) → a ≤ n * d → 0 < d → a + (d - 1) < suc n * d
    short a d n h D = simp suc-mul (omega arith)

ceiling_is : (a d n : ℕ) → 0 < d → n * d < a → a ≤ suc n * d → (a + (d - 1)) / d ≡ suc n
ceiling_is a d n D l h = div-eq_of_lt-le d (reach a d n l) (short a d n D h)
  where
    reach : (a d n : ℕ) → n * d < a → suc n * d ≤ a + (d - 1)
    reach a d n h = simp suc-mul (omega arith)

    short : (a d n : ℕ) → 0 < d → a ≤ suc n * d → a + (d - 1) < (suc n + 1) * d
    short a d n D h = simp (add-mul, one-mul) (omega arith)

capped : (n c : ℕ) → n ≤ c → min n c ≡ n
capped n c h = omega arith

pub code_from_0 : (g : Bool) (w n u : ℕ) (z : Float) → n ≤ scale g w → HasValue z false u unit → n * unit ≤ u → u < suc n * unit → floor_code g w z ≡ n
unfolding floor_code
code_from_0 g w n u nan h v lo hi = absurd v
code_from_0 g w n u (inf s) h v lo hi = absurd v
code_from_0 g w n u (fin true m e) h v lo hi = absurd (true≢false v.0)
code_from_0 g w n u (fin false m e) h v lo hi =
    ap (λ (q : ℕ). min q (scale g w)) (div_same (m * up e) (down e) u unit (down_pos e) (pow_pos 149) v.1 ∙ div-eq_of_lt-le unit lo (subst (λ (k : ℕ). u < k * unit) (sym (add-one n)) hi)) ∙ capped n (scale g w) h

pub code_below_0 : (g : Bool) (w n u : ℕ) (z : Float) → suc n ≤ depth g w → HasValue z true u unit → n * unit < u → u ≤ suc n * unit → floor_code g w z ≡ 2 ^ w - suc n
unfolding floor_code
code_below_0 g w n u nan h v lo hi = absurd v
code_below_0 g w n u (inf s) h v lo hi = absurd v
code_below_0 g w n u (fin false m e) h v lo hi = absurd (true≢false (sym v.0))
code_below_0 g w n u (fin true m e) h v lo hi =
    let a = m * up e in
    let d = down e in
    ap (λ (q : ℕ). minus w (min q (depth g w))) (ceiling_is a d n (down_pos e) (past a d u unit n (pow_pos 149) v.1 (down_pos e) lo) (most a d u unit (suc n) (pow_pos 149) v.1 hi))
    ∙ ap (minus w) (capped (suc n) (depth g w) h)

pub size_most : (m u n : ℕ) (e : ℤ) → m * up e * unit ≡ u * down e → u ≤ n * unit → (m * up e + (down e - 1)) / down e ≤ n
size_most m u n e v h = ceiling_most (m * up e) (down e) n (down_pos e) (most (m * up e) (down e) u unit n (pow_pos 149) v h)
