-- Only one fraction and one exponent are what 01 asks of frexp. Two magnitudes in [0.5, 1) differ by less than a factor of two, so the powers of two that
-- make them the same number are equal, and then so are they. Assumes nothing.
use Rattle.std.proofs.Common.{◌≡◌, ℕ, suc, ◌+◌, ◌*◌, ◌^◌, ◌<◌, ◌≤◌, ℤ, pos, negsuc, sym, refl, ap, ◌∙◌, ap₂, inl, inr, le_trans, le_of_eq, mul-le-mul_right, mul_assoc, mul_comm, le_antisymm, mul-le-mul_left, mul-lt-mul_of_pos_right, mul_right_comm, not-le_of_lt, arith, pow_pos, pow_mono, pow-add}
use native.Mathlib.Nat.{eq_of_mul-eq-mul_right, pow-succ'}
use lib.Ieee.{up, down}
use Rattle.half.specs.Format.{Format, top, magnitude, signed, lowest, units}
use Rattle.half.proofs.Closest.{split}
use Rattle.half.proofs.Sizes.{units_inj}
use Rattle.half.proofs.Signs.{signed_parts}
use Rattle.exponent.specs.Splits.{Splits}

-- ---- 2 ^ z is 2 ^ above z / 2 ^ below z
abbrev above : ℤ → ℕ
above (pos k) = k
above (negsuc k) = 0

abbrev below : ℤ → ℕ
below (pos k) = 0
below (negsuc k) = suc k

up_is : (z : ℤ) → up z ≡ 2 ^ above z
up_is (pos k) = refl
up_is (negsuc k) = refl

down_is : (z : ℤ) → down z ≡ 2 ^ below z
down_is (pos k) = refl
down_is (negsuc k) = refl

same_integer : (y z : ℤ) → above y + below z ≡ above z + below y → y ≡ z
same_integer (pos a) (pos b) e = ap pos (omega arith)
same_integer (pos a) (negsuc b) e = absurd (omega arith)
same_integer (negsuc a) (pos b) e = absurd (omega arith)
same_integer (negsuc a) (negsuc b) e = ap negsuc (omega arith)

-- ---- of the powers that make v and w the same number none is less
module _ (l v w : ℕ) (high : v < 2 ^ l) (low : 2 ^ l ≤ 2 * w) where
  no_less : (a b : ℕ) → v * 2 ^ a ≡ w * 2 ^ b → b ≤ a
  no_less a b e =
      elim (split a b) [
        | inr g ↦ g
        | inl h ↦
            absurd
            (not-le_of_lt (mul-lt-mul_of_pos_right high (pow_pos a))
            (le_trans (mul-le-mul_right (2 ^ a) low) (le_trans (le_of_eq (ap (λ (x : ℕ). x * 2 ^ a) (mul_comm 2 w) ∙ mul_assoc w 2 (2 ^ a) ∙ ap (λ (x : ℕ). w * x) (sym (pow-succ' 2 a)))) (le_trans (mul-le-mul_left w (pow_mono h)) (le_of_eq (sym e))))))
      ]

module _ (f : Format) (x r t : ℕ) (y z : ℤ) (a : Splits f x r y) (b : Splits f x t z) where
  abbrev v : ℕ
  v = units f (magnitude f r)

  abbrev w : ℕ
  w = units f (magnitude f t)

  crossed : v * 2 ^ (above y + below z) ≡ w * 2 ^ (above z + below y)
  crossed = raised v y z ∙ ap (λ (n : ℕ). n * down z) (sym a.exact) ∙ mul_right_comm (units f (magnitude f x)) (down y) (down z) ∙ ap (λ (n : ℕ). n * down y) b.exact ∙ sym (raised w z y)
    where
      raised : (v : ℕ) (y z : ℤ) → v * 2 ^ (above y + below z) ≡ v * up y * down z
      raised v y z = ap (λ (n : ℕ). v * n) (pow-add 2 (above y) (below z)) ∙ sym (mul_assoc v (2 ^ above y) (2 ^ below z)) ∙ ap₂ (λ (m n : ℕ). v * m * n) (sym (up_is y)) (sym (down_is z))

  powers : above y + below z ≡ above z + below y
  powers = le_antisymm (no_less (lowest f) w v b.most a.least (above z + below y) (above y + below z) (sym crossed)) (no_less (lowest f) v w a.most b.least (above y + below z) (above z + below y) crossed)

  pub exponent_alone : y ≡ z
  exponent_alone = same_integer y z powers

  pub fraction_alone : r < 2 * top f → t < 2 * top f → r ≡ t
  fraction_alone i j =
      let n = above z + below y in
      let e = units_inj f (magnitude f r) (magnitude f t) (eq_of_mul-eq-mul_right (2 ^ n) (pow_pos n) v w (ap (λ (k : ℕ). v * 2 ^ k) (sym powers) ∙ crossed)) in
      sym (signed_parts f r i) ∙ ap₂ (signed f) (a.sign ∙ sym b.sign) e ∙ signed_parts f t j
