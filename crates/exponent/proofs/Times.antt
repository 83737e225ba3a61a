-- A magnitude times a power of two, rounded once: over its first digits q, which stay where they stand while the exponent's field has room below
-- the infinity, and of which the last are rounded off where it has none. Equal fractions round alike, so that each is a case of `rounded`.
-- Assumes nothing.
use Rattle.std.proofs.Common.{◌≡◌, ℕ, suc, ◌+◌, ◌*◌, ◌^◌, ◌<◌, ◌≤◌, min, ℤ, pos, negsuc, sym, refl, ap, ◌∙◌, inr, le_trans, le_of_eq, lt_of_lt_of_le, le_of_lt, zero-mul, mul-one, mul_right_comm, le-mul_of_pos_right, arith, pow_pos, pow_mono}
use native.Mathlib.Nat.{min-eq_left, zero-min, two-pow-succ}
use lib.Ieee.{down}
use lib.Ieee.Digits.{size-lt}
use lib.Ieee.Nearest.{closest}
use Rattle.half.specs.Format.{Format, hidden, infinity, units, pattern, magnitude_of}
use Rattle.half.proofs.Closest.{closest_range}
use Rattle.half.proofs.Sizes.{pattern_is, pattern_small, pattern_units, units_small}
use Rattle.half.proofs.Rounding.{rounded_same, rounded_units, rounded_none, rounded_exact, rounded_keep}
use Rattle.exponent.specs.Leads.{Leads}
use Rattle.exponent.proofs.FirstDigits.{times, size_is}

pub down_pos : (z : ℤ) → 0 < down z
down_pos (pos k) = pow_pos 0
down_pos (negsuc k) = pow_pos (suc k)

module _ (f : Format) where
  pub magnitude_same : (a c b d : ℕ) → 0 < c → 0 < d → a * d ≡ b * c → magnitude_of f a c ≡ magnitude_of f b d
  unfolding magnitude_of
  magnitude_same a c b d C D e = ap (λ (u : ℕ). min (pattern f u) (infinity f)) (rounded_same f a c b d C D e)

  pub magnitude_exact : (m c : ℕ) → 0 < c → m ≤ infinity f → magnitude_of f (units f m * c) c ≡ m
  unfolding magnitude_of
  magnitude_exact m c C h = ap (λ (u : ℕ). min (pattern f u) (infinity f)) (rounded_units f m c C) ∙ ap (λ (x : ℕ). min x (infinity f)) (pattern_units f m) ∙ min-eq_left h

  magnitude_none : (a c : ℕ) → a * 2 < c → magnitude_of f a c ≡ 0
  unfolding magnitude_of
  magnitude_none a c h = ap (λ (u : ℕ). min (pattern f u) (infinity f)) (rounded_none f a c h) ∙ ap (λ (x : ℕ). min x (infinity f)) (pattern_small f 0 (omega arith)) ∙ zero-min (infinity f)

  pub magnitude_zero : (a c : ℕ) → 0 < c → magnitude_of f (units f 0 * a) c ≡ 0
  magnitude_zero a c C = ap (λ (u : ℕ). magnitude_of f u c) (ap (λ (u : ℕ). u * a) (units_small f 0 (pow_pos f.fraction)) ∙ zero-mul a) ∙ magnitude_none 0 c C

  -- ---- the digits q behind the exponent's field, or moved down out of it
  module _ (q : ℕ) (least : hidden f ≤ q) (most : q < 2 ^ suc f.fraction) where
    pub placed_high : (a k : ℕ) → a ≡ k + suc f.fraction → magnitude_of f (q * 2 ^ a) (2 ^ suc f.fraction) ≡ min (k * hidden f + q) (infinity f)
    unfolding magnitude_of
    placed_high a k e =
        ap (λ (u : ℕ). min (pattern f u) (infinity f)) (rounded_exact f (q * 2 ^ a) (2 ^ suc f.fraction) k q (pow_pos (suc f.fraction)) most (sym (times q k (suc f.fraction) a (sym e))))
        ∙ ap (λ (x : ℕ). min x (infinity f)) (pattern_is f k q (record { most = le_of_lt most; least = inr least }))

    pub placed_low : 2 ^ suc f.fraction ≤ infinity f → (a s : ℕ) → a + s ≡ suc f.fraction → magnitude_of f (q * 2 ^ a) (2 ^ suc f.fraction) ≡ closest q (2 ^ s)
    unfolding magnitude_of
    placed_low room a s e =
        let p = suc f.fraction in
        let few : closest q (2 ^ s) ≤ 2 ^ p = (closest_range q (2 ^ s) 0 (2 ^ p) (pow_pos s) (omega arith) (lt_of_lt_of_le most (le-mul_of_pos_right (2 ^ p) (pow_pos s)))).1 in
        ap (λ (u : ℕ). min (pattern f u) (infinity f)) (rounded_keep f q a p s (lt_of_lt_of_le most (pow_mono {i = p} {j = p + s} (omega arith))) e)
        ∙ ap (λ (x : ℕ). min x (infinity f)) (pattern_small f (closest q (2 ^ s)) few)
        ∙ min-eq_left (le_trans few room)

  -- ---- times a power of two
  module _ (m q s : ℕ) (l : Leads f.fraction m q s) where
    pub times_up : (k : ℕ) → magnitude_of f (units f m * 2 ^ k) 1 ≡ magnitude_of f (q * 2 ^ (s + k)) (2 ^ suc f.fraction)
    times_up k =
        let p = suc f.fraction in
        magnitude_same (units f m * 2 ^ k) 1 (q * 2 ^ (s + k)) (2 ^ p) (omega arith) (pow_pos p)
        (mul_right_comm (units f m) (2 ^ k) (2 ^ p) ∙ ap (λ (x : ℕ). x * 2 ^ k) (l.same f.exponent) ∙ times q s k (s + k) refl ∙ sym (mul-one (q * 2 ^ (s + k))))

    pub times_down : (j k : ℕ) → s ≡ k + suc j → magnitude_of f (units f m * 1) (2 ^ suc j) ≡ magnitude_of f (q * 2 ^ k) (2 ^ suc f.fraction)
    times_down j k e =
        let p = suc f.fraction in
        magnitude_same (units f m * 1) (2 ^ suc j) (q * 2 ^ k) (2 ^ p) (pow_pos (suc j)) (pow_pos p)
        (ap (λ (x : ℕ). x * 2 ^ p) (mul-one (units f m)) ∙ l.same f.exponent ∙ sym (times q k (suc j) s (sym e)))

    pub times_none : (j : ℕ) → s ≤ j → magnitude_of f (units f m * 1) (2 ^ suc j) ≡ 0
    times_none j h =
        let below : units f m < 2 ^ j = lt_of_lt_of_le (size-lt (units f m)) (le_trans (le_of_eq (ap (λ (x : ℕ). 2 ^ x) (size_is f m q s l))) (pow_mono h)) in
        magnitude_none (units f m * 1) (2 ^ suc j) (omega (arith, mul-one (units f m), two-pow-succ j))
