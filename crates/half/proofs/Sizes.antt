-- Magnitudes and the sizes that they stand for. Each magnitude is k * hidden + q and its size q * 2 ^ k, where k zeros are dropped and q is
-- what is kept (`Placed`), so that `pattern` and `units` undo each other and sizes rise with magnitudes. Assumes nothing.
use mathlib.Core.Path.{◌≡◌, refl, sym, ap, ◌∙◌, subst}
use mathlib.Core.Logic.{◌⊎◌, inl, inr}
use Prim.Native.Nat.{ℕ, zero, suc, ◌+◌, ◌-◌, ◌*◌, ◌/◌, ◌%◌, ◌^◌, ◌≤◌, ◌<◌}
use native.Mathlib.Nat.{le_refl, zero-mul, zero-add, le_trans, le_of_eq, le_of_lt, lt_of_lt_of_le, lt_of_not-le, not-le_of_lt, one-mul, mul-one, mul_assoc, mul-le-mul, mul-le-mul_right, mul-lt-mul_of_pos_right, mul-div_cancel, eq-or-lt_of_le, two-pow-succ, pow-succ', suc-add, add-suc, suc-mul, div-eq_of_lt, mod-eq_of_lt, div-add-mod', mod-lt, le-div_iff_mul-le, sub-eq-zero_of_le, add-sub_of_le, suc-sub-suc, sub-zero}
use native.Mathlib.Omega.{arith}
use lib.Pow.{pow_pos, pow_mono, pow-add}
use lib.Arith.{digits_div, digits_mod}
use lib.Ieee.{size}
use lib.Ieee.Digits.{size-lt, size-le}
use Rattle.half.specs.Format.{Format, hidden, fields, units, pattern}
use Rattle.half.proofs.Closest.{split}

-- the digits of n past p
pub size_past : (p k n : ℕ) → 2 ^ (p + k) ≤ n → n < 2 ^ suc (p + k) → size n - suc p ≡ k
size_past p k n a b =
    let least : p + k < size n = lt_of_not-le (λ (g : size n ≤ p + k). not-le_of_lt (lt_of_lt_of_le (size-lt n) (pow_mono g)) a) in
    omega (arith, size-le n (suc (p + k)) b)

pub size_within : (p n : ℕ) → n < 2 ^ p → size n - p ≡ 0
size_within p n h = sub-eq-zero_of_le (size-le n p h)

pub power_next : (p k : ℕ) → 2 ^ suc p * 2 ^ k ≡ 2 ^ p * 2 ^ suc k
power_next p k = sym (pow-add 2 (suc p) k) ∙ ap (λ (x : ℕ). 2 ^ x) (suc-add p k ∙ sym (add-suc p k)) ∙ pow-add 2 p (suc k)

-- with k zeros dropped q is left: all the digits that f keeps, or fewer where none is dropped. Rounding up may have made q the next power of two.
pub record Placed (f : Format) (k q : ℕ) : Type 0 where
  pub most : q ≤ 2 ^ suc f.fraction
  pub least : (k ≡ 0) ⊎ (hidden f ≤ q)

module _ (f : Format) where
  -- what a property of a magnitude and its size has to be shown for
  by_cases : (R : ℕ → ℕ → Type 0) → ((q : ℕ) → q < hidden f → R q q) → ((k q : ℕ) → hidden f ≤ q → q < hidden f + hidden f → R (k * hidden f + q) (q * 2 ^ k))
      → (k q : ℕ) → Placed f k q → R (k * hidden f + q) (q * 2 ^ k)
  by_cases R small full k q p =
      elim (split q (hidden f)) [
        | inl l ↦
            elim p.least [
              | inl z ↦ rw (z, zero-mul, zero-add, mul-one) (small q l)
              | inr g ↦ absurd (omega arith)
            ]
        | inr g ↦
            elim (eq-or-lt_of_le p.most) [
              | inr l ↦ full k q g (omega (arith, two-pow-succ f.fraction))
              | inl e ↦
                  let t = e ∙ two-pow-succ f.fraction in
                  subst (λ (x : ℕ). R x (q * 2 ^ k)) (carry k (hidden f) q t)
                  (subst (λ (x : ℕ). R (suc k * hidden f + hidden f) x) (up (hidden f) k q t) (full (suc k) (hidden f) (le_refl (hidden f)) (omega (arith, pow_pos f.fraction))))
            ]
      ]
    where
      carry : (k h q : ℕ) → q ≡ h + h → suc k * h + h ≡ k * h + q
      carry k h q e = omega (arith, suc-mul k h)

      up : (h k q : ℕ) → q ≡ h + h → h * 2 ^ suc k ≡ q * 2 ^ k
      up h k q e = ap (λ (x : ℕ). h * x) (pow-succ' 2 k) ∙ sym (mul_assoc h 2 (2 ^ k)) ∙ ap (λ (x : ℕ). x * 2 ^ k) (twice h ∙ sym e)
        where
          twice : (h : ℕ) → h * 2 ≡ h + h
          twice h = omega arith

  pattern_at_lem : (u k : ℕ) → size u - suc f.fraction ≡ k → pattern f u ≡ k * hidden f + u / 2 ^ k
  unfolding pattern
  pattern_at_lem u k e = ap (λ (z : ℕ). z * hidden f + u / 2 ^ z) e

  pub pattern_is : (k q : ℕ) → Placed f k q → pattern f (q * 2 ^ k) ≡ k * hidden f + q
  pattern_is =
      by_cases (λ (m u : ℕ). pattern f u ≡ m)
      (λ (q : ℕ) (l : q < hidden f). pattern_at_lem q 0 (size_within (suc f.fraction) q (omega (arith, two-pow-succ f.fraction))) ∙ omega arith)
      (λ (k q : ℕ) (g : hidden f ≤ q) (l : q < hidden f + hidden f).
      pattern_at_lem (q * 2 ^ k) k (size_past f.fraction k (q * 2 ^ k) (low f.fraction k q g) (high f.fraction k q l))
      ∙ ap (λ (z : ℕ). k * hidden f + z) (mul-div_cancel q (pow_pos k)))
    where
      low : (p k q : ℕ) → 2 ^ p ≤ q → 2 ^ (p + k) ≤ q * 2 ^ k
      low p k q g = le_trans (le_of_eq (pow-add 2 p k)) (mul-le-mul_right (2 ^ k) g)

      high : (p k q : ℕ) → q < 2 ^ p + 2 ^ p → q * 2 ^ k < 2 ^ suc (p + k)
      high p k q l = lt_of_lt_of_le (mul-lt-mul_of_pos_right l (pow_pos k)) (le_of_eq (ap (λ (x : ℕ). x * 2 ^ k) (sym (two-pow-succ p)) ∙ sym (pow-add 2 (suc p) k) ∙ ap (λ (x : ℕ). 2 ^ x) (suc-add p k)))

  pub pattern_up_to : (k q : ℕ) → hidden f ≤ q → q ≤ 2 ^ suc f.fraction → pattern f (q * 2 ^ k) ≡ k * hidden f + q
  pattern_up_to k q g l = pattern_is k q (record { most = l; least = inr g })

  -- a size that fits the digits is its own magnitude
  pub pattern_small : (q : ℕ) → q ≤ 2 ^ suc f.fraction → pattern f q ≡ q
  pattern_small q l = ap (pattern f) (sym (mul-one q)) ∙ pattern_is 0 q (record { most = l; least = inl refl }) ∙ omega arith

  -- ---- sizes
  fields_at : (x t e r : ℕ) → x ≡ e → t ≡ r → fields f x t ≡ fields f e r
  fields_at x t e r i j = cc

  pub units_small : (q : ℕ) → q < hidden f → units f q ≡ q
  unfolding fields
  units_small q l = fields_at (q / hidden f) (q % hidden f) 0 q (div-eq_of_lt l) (mod-eq_of_lt l)

  pub units_full : (k q : ℕ) → hidden f ≤ q → q < hidden f + hidden f → units f (k * hidden f + q) ≡ q * 2 ^ k
  unfolding fields
  units_full k q g l =
      let r = q - hidden f in
      let s : r < hidden f = omega arith in
      let e : k * hidden f + q ≡ suc k * hidden f + r = omega (arith, suc-mul k (hidden f)) in
      ap (units f) e ∙ fields_at _ _ (suc k) r (digits_div (suc k) s) (digits_mod (suc k) s) ∙ ap (λ (x : ℕ). x * 2 ^ k) (add-sub_of_le g)

  pub units_is : (k q : ℕ) → Placed f k q → units f (k * hidden f + q) ≡ q * 2 ^ k
  units_is = by_cases (λ (m u : ℕ). units f m ≡ u) units_small units_full

-- a magnitude taken apart
pub record Parts (f : Format) (m : ℕ) : Type 0 where
  pub k : ℕ
  pub q : ℕ
  pub joined : m ≡ k * hidden f + q
  pub below : q < 2 ^ suc f.fraction
  pub least : (k ≡ 0) ⊎ (hidden f ≤ q)
  pub size : units f m ≡ q * 2 ^ k

module _ (f : Format) where
  pub parts : (m : ℕ) → Parts f m
  parts m =
      elim (split m (hidden f)) [
        | inl l ↦ of 0 m (omega arith) (omega (arith, two-pow-succ f.fraction)) (inl refl)
        | inr g ↦
            let e = m / hidden f in
            let some : 1 ≤ e = (le-div_iff_mul-le (pow_pos f.fraction)).1 (le_trans (le_of_eq (one-mul (hidden f))) g) in
            of (e - 1) (hidden f + m % hidden f) (whole e (hidden f) m (m % hidden f) some (div-add-mod' m (hidden f)))
            (omega (arith, two-pow-succ f.fraction, mod-lt m (pow_pos f.fraction))) (inr (omega arith))
      ]
    where
      of : (k q : ℕ) → m ≡ k * hidden f + q → q < 2 ^ suc f.fraction → (k ≡ 0) ⊎ (hidden f ≤ q) → Parts f m
      of k q e l g = record { k = k; q = q; joined = e; below = l; least = g; size = ap (units f) e ∙ units_is f k q (record { most = omega arith; least = g }) }

      whole : (e h m r : ℕ) → 1 ≤ e → e * h + r ≡ m → m ≡ (e - 1) * h + (h + r)
      whole zero h m r s i = absurd (omega arith)
      whole (suc e) h m r s i = omega (arith, suc-mul e h, ap (λ (x : ℕ). x * h) (suc-sub-suc e 0 ∙ sub-zero e))

  pub placed : (m : ℕ) → Placed f (parts m).k (parts m).q
  placed m = record { most = omega (arith, (parts m).below); least = (parts m).least }

  pub pattern_units : (m : ℕ) → pattern f (units f m) ≡ m
  pattern_units m = ap (pattern f) (parts m).size ∙ pattern_is f (parts m).k (parts m).q (placed m) ∙ sym (parts m).joined

  -- a size of no more digits than f keeps is that of its magnitude
  pub units_pattern : (j q : ℕ) → q ≤ 2 ^ suc f.fraction → units f (pattern f (q * 2 ^ j)) ≡ q * 2 ^ j
  units_pattern zero q l = at 0 q (record { most = l; least = inl refl })
    where
      at : (k q : ℕ) → Placed f k q → units f (pattern f (q * 2 ^ k)) ≡ q * 2 ^ k
      at k q p = ap (units f) (pattern_is f k q p) ∙ units_is f k q p
  units_pattern (suc j) q l =
      elim (split q (hidden f)) [
        | inr g ↦ ap (units f) (pattern_up_to f (suc j) q g l) ∙ units_is f (suc j) q (record { most = l; least = inr g })
        | inl b ↦ subst (λ (u : ℕ). units f (pattern f u) ≡ u) (sym (double q j)) (units_pattern j (q * 2) (omega (arith, two-pow-succ f.fraction)))
      ]
    where
      double : (q j : ℕ) → q * 2 ^ suc j ≡ q * 2 * 2 ^ j
      double q j = ap (λ (x : ℕ). q * x) (pow-succ' 2 j) ∙ sym (mul_assoc q 2 (2 ^ j))

  -- ---- sizes rise with magnitudes
  pub units_lt : (m n : ℕ) → m < n → units f m < units f n
  units_lt m n h =
      let a = parts m in
      let b = parts n in
      rw (a.size, b.size)
      (elim (split a.k b.k) [
        | inl l ↦
            elim b.least [
              | inl z ↦ absurd (omega arith)
              | inr g ↦ lt_of_lt_of_le (mul-lt-mul_of_pos_right a.below (pow_pos a.k)) (le_trans (le_of_eq (power_next f.fraction a.k)) (mul-le-mul g (pow_mono l)))
            ]
        | inr g ↦
            elim (eq-or-lt_of_le g) [
              | inl e ↦ subst (λ (x : ℕ). a.q * 2 ^ a.k < b.q * 2 ^ x) (sym e) (mul-lt-mul_of_pos_right (omega (arith, a.joined, b.joined, ap (λ (x : ℕ). x * hidden f) e)) (pow_pos a.k))
              | inr l ↦
                  elim a.least [
                    | inl z ↦ absurd (omega arith)
                    | inr p ↦ absurd (omega (arith, a.joined, b.joined, b.below, two-pow-succ f.fraction, mul-le-mul_right (hidden f) l, suc-mul b.k (hidden f)))
                  ]
            ]
      ])

  pub units_le : (m n : ℕ) → m ≤ n → units f m ≤ units f n
  units_le m n h = elim (eq-or-lt_of_le h) [ inl e ↦ le_of_eq (ap (units f) e) | inr l ↦ le_of_lt (units_lt m n l) ]

  pub lt_of_units : (m n : ℕ) → units f m < units f n → m < n
  lt_of_units m n h = lt_of_not-le (λ (g : n ≤ m). not-le_of_lt h (units_le n m g))

  pub units_inj : (m n : ℕ) → units f m ≡ units f n → m ≡ n
  units_inj m n e = sym (pattern_units m) ∙ ap (pattern f) e ∙ pattern_units n
