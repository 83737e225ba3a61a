-- The first digits of a float's size and how many digits it has (`Leads`): each magnitude above 0 has them, and they give the size's `size`, and
-- frexp's fraction as digits behind the exponent's field of 0.5. A size u of s digits is q * 2 ^ s / 2 ^ (p + 1). Assumes nothing.
use Rattle.std.proofs.Common.{◌≡◌, ℕ, zero, suc, ◌+◌, ◌-◌, ◌*◌, ◌/◌, ◌%◌, ◌^◌, ◌<◌, ◌≤◌, sym, refl, ap, ◌∙◌, inl, inr, le_trans, le_of_eq, lt_of_lt_of_le, lt_of_le_of_lt, mul-le-mul_right, mod-lt, mul_assoc, suc-mul, mul_comm, add-mul, eq-zero-or-pos, le_antisymm, lt_of_mul-lt-mul_right, mul-lt-mul_of_pos_right, one-mul, lt_of_not-le, div-add-mod', le-div_iff_mul-le, mul-one, mul_right_comm, not-le_of_lt, le_of_mul-le-mul_right, mul-div_cancel, arith, pow_pos, pow_mono, pow-add}
use native.Mathlib.Nat.{two-pow-succ}
use lib.Ieee.{size}
use lib.Ieee.Digits.{size-lt, size-le, size_reaches}
use Rattle.half.specs.Format.{Format, hidden, lowest, units, pattern}
use Rattle.half.specs.Program.{format}
use Rattle.half.proofs.Closest.{split}
use Rattle.half.proofs.Sizes.{pattern_is, units_small, units_full}
use Rattle.exponent.specs.Leads.{Leads}

-- u is at least half of 2 ^ s, and below it
pub size_at : (u s : ℕ) → u < 2 ^ s → 2 ^ s ≤ 2 * u → size u ≡ s
size_at u s l g = elim (split (size u) s) [ inl h ↦ absurd (not-le_of_lt (twice h) g) | inr h ↦ le_antisymm (size-le u s l) h ]
  where
    twice : suc (size u) ≤ s → 2 * u < 2 ^ s
    twice h = lt_of_lt_of_le (omega (arith, size-lt u, two-pow-succ (size u))) (pow_mono h)

pub times : (q i j k : ℕ) → i + j ≡ k → q * 2 ^ i * 2 ^ j ≡ q * 2 ^ k
times q i j k e = mul_assoc q (2 ^ i) (2 ^ j) ∙ ap (λ (x : ℕ). q * x) (sym (pow-add 2 i j) ∙ ap (λ (x : ℕ). 2 ^ x) e)

-- ---- which they are
-- below the leading digit's weight, d places bring the first digit there
pub leads_low : (p m d s : ℕ) → m < 2 ^ p → 2 ^ p ≤ m * 2 ^ d → m * 2 ^ d < 2 ^ suc p → d + s ≡ suc p → Leads p m (m * 2 ^ d) s
leads_low p m d s h least most e = record {
  least = least;
  most = most;
  count = elim (eq-zero-or-pos d) [ inl z ↦ absurd (not-le_of_lt h (le_trans least (le_of_eq (ap (λ (x : ℕ). m * 2 ^ x) z ∙ mul-one m)))) | inr g ↦ omega arith ];
  same = λ (x : ℕ). ap (λ (u : ℕ). u * 2 ^ suc p) (units_small (format x p) m h) ∙ sym (times m d s (suc p) e);
}

pub leads_full : (p m : ℕ) → 2 ^ p ≤ m → Leads p m (m % 2 ^ p + 2 ^ p) (m / 2 ^ p + p)
leads_full p m g = go (m / 2 ^ p) (m % 2 ^ p) (div-add-mod' m (2 ^ p)) (mod-lt m (pow_pos p)) ((le-div_iff_mul-le (pow_pos p)).1 (le_trans (le_of_eq (one-mul (2 ^ p))) g)) (le_of_eq refl)
  where
    joined : (k h r m : ℕ) → suc k * h + r ≡ m → m ≡ k * h + (r + h)
    joined k h r m e = omega (arith, suc-mul k h)

    go : (n r : ℕ) → n * 2 ^ p + r ≡ m → r < 2 ^ p → 1 ≤ n → n ≤ m / 2 ^ p → Leads p m (r + 2 ^ p) (n + p)
    go zero r e l s t = absurd (omega arith)
    go (suc k) r e l s t = record {
      least = omega arith;
      most = omega (arith, two-pow-succ p);
      count = omega arith;
      same = λ (x : ℕ). ap (λ (u : ℕ). u * 2 ^ suc p) (ap (units (format x p)) (joined k (2 ^ p) r m e) ∙ units_full (format x p) k (r + 2 ^ p) (omega arith) (omega arith)) ∙ times (r + 2 ^ p) k (suc p) (suc k + p) (omega arith);
    }

pub record Led (p m : ℕ) : Type 0 where
  pub q : ℕ
  pub s : ℕ
  pub leads : Leads p m q s

pub led : (p m : ℕ) → 0 < m → Led p m
led p m n =
    elim (split m (2 ^ p)) [
      | inr g ↦ record { q = m % 2 ^ p + 2 ^ p; s = m / 2 ^ p + p; leads = leads_full p m g }
      | inl l ↦
          let s = size m in
          let d = suc p - s in
          let few : s ≤ p = size-le m p l in
          let some : 0 < s = lt_of_not-le (λ (z : s ≤ 0). not-le_of_lt (lt_of_lt_of_le (size-lt m) (pow_mono z)) n) in
          let low : 2 ^ p ≤ m * 2 ^ d = le_trans (le_of_eq (ap (λ (x : ℕ). 2 ^ x) (before s p few some) ∙ pow-add 2 (s - 1) d)) (mul-le-mul_right (2 ^ d) (size_reaches m (s - 1) (omega arith))) in
          let high : m * 2 ^ d < 2 ^ suc p = lt_of_lt_of_le (mul-lt-mul_of_pos_right (size-lt m) (pow_pos d)) (le_of_eq (sym (pow-add 2 s d) ∙ ap (λ (x : ℕ). 2 ^ x) (whole s p few))) in
          record { q = m * 2 ^ d; s = s; leads = leads_low p m d s l low high (omega arith) }
    ]
  where
    before : (s p : ℕ) → s ≤ p → 0 < s → p ≡ s - 1 + (suc p - s)
    before s p h k = omega arith

    whole : (s p : ℕ) → s ≤ p → s + (suc p - s) ≡ suc p
    whole s p h = omega arith

-- ---- what they give
-- the zeros behind the digits of a size from 0.5 up to 1
abbrev pub behind : Format → ℕ
behind f = 2 ^ (f.exponent - 1) - 3

pub halved : (e : ℕ) → 3 ≤ e → (4 ≤ 2 ^ (e - 1)) × (2 ^ e ≡ 2 ^ (e - 1) + 2 ^ (e - 1))
halved e h = (pow_mono {i = 2} {j = e - 1} (omega arith), ap (λ (x : ℕ). 2 ^ x) (next e h) ∙ two-pow-succ (e - 1))
  where
    next : (e : ℕ) → 3 ≤ e → e ≡ suc (e - 1)
    next e h = omega arith

pub lowest_is : (f : Format) → 3 ≤ f.exponent → lowest f ≡ suc f.fraction + behind f
lowest_is f h = omega (arith, (halved f.exponent h).0)

module _ (f : Format) (m q s : ℕ) (l : Leads f.fraction m q s) where
  pub size_is : size (units f m) ≡ s
  size_is =
      let p = f.fraction in
      let e = l.same f.exponent in
      size_at (units f m) s
      (lt_of_mul-lt-mul_right (2 ^ suc p) (lt_of_le_of_lt (le_of_eq e) (lt_of_lt_of_le (mul-lt-mul_of_pos_right l.most (pow_pos s)) (le_of_eq (mul_comm (2 ^ suc p) (2 ^ s))))))
      (le_of_mul-le-mul_right {k = 2 ^ p} (le_trans (le_of_eq (mul_comm (2 ^ s) (2 ^ p))) (le_trans (mul-le-mul_right (2 ^ s) l.least) (le_of_eq (sym e ∙ ap (λ (x : ℕ). units f m * x) (two-pow-succ p) ∙ double (units f m) (2 ^ p))))) (pow_pos p))
    where
      double : (u h : ℕ) → u * (h + h) ≡ 2 * u * h
      double u h = mul_comm u (h + h) ∙ omega (arith, add-mul h h u, mul_comm h u, mul_assoc 2 u h)

  -- the field of 0.5 leaves j zeros behind the digits
  module _ (j : ℕ) (L : lowest f ≡ suc f.fraction + j) where
    quotient : units f m * 2 ^ lowest f / 2 ^ size (units f m) ≡ q * 2 ^ j
    quotient =
        let p = f.fraction in
        ap (λ (x : ℕ). units f m * 2 ^ lowest f / 2 ^ x) size_is
        ∙ ap (λ (x : ℕ). x / 2 ^ s) (sym (times (units f m) (suc p) j (lowest f) (sym L)) ∙ ap (λ (x : ℕ). x * 2 ^ j) (l.same f.exponent) ∙ mul_right_comm q (2 ^ s) (2 ^ j))
        ∙ mul-div_cancel (q * 2 ^ j) (pow_pos s)

    pub half_is : pattern f (units f m * 2 ^ lowest f / 2 ^ size (units f m)) ≡ j * hidden f + q
    half_is = ap (pattern f) quotient ∙ pattern_is f j q (record { most = omega (arith, l.most); least = inr l.least })
