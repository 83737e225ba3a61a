-- The operations on f32 by the fractions that floats equal, whatever their signs, and where a rounded fraction lies: between the same values of f32
-- as the fraction itself, since rounding keeps the order and leaves those values as they are. Assumes nothing.
use mathlib.Core.Path.{◌≡◌, sym, ap, ◌∙◌, subst}
use mathlib.Core.Logic.{◌⊎◌, inl, inr}
use Prim.Native.Nat.{ℕ, zero, suc, ◌+◌, ◌-◌, ◌*◌, ◌^◌, ◌≤◌, ◌<◌}
use native.Mathlib.Nat.{le_trans, le_of_eq, le_of_lt, lt_of_lt_of_le, lt_of_le_of_lt, zero-mul, mul_comm, mul_assoc, mul_left_comm, mul-mul-mul_comm, mul-pos, le_of_mul-le-mul_right}
use native.Mathlib.Omega.{arith}
use mathlib.Core.Bool.{Bool, true, false, not, ◌||◌, true≢false}
use lib.Dec.{T, ltb, eqb, ltb→lt, eqb→eq, eqb-suc-zero}
use lib.Pow.{pow-add, pow_pos, pow_mono, shl_lt}
use lib.Ieee.{Float, nan, inf, fin, Format, binary32, up, down, round, unlike, mul, div, lt, le, eq}
use lib.Ieee.Bits.{cond_no}
use lib.Ieee.Fits.{up_pos, down_pos, and_l}
use lib.Ieee.Exact.{HasValue, round_exact}
use lib.Ieee.Order.{transfer, round_mono}
use lib.Ieee.Scale.{round_same, round_val, round_under, grid, finite}
use Rattle.floats.proofs.Sums.{neg_value}
use Rattle.norm.proofs.Signs.{round_neg}

-- ---- products and quotients
pub mul_value : (f : Format) (x y : Float) (s t : Bool) (a c b d : ℕ) → 0 < c → 0 < d → HasValue x s a c → HasValue y t b d → mul f x y ≡ round f (unlike s t) (a * b) (c * d)
unfolding mul
mul_value f nan y s t a c b d C D v w = absurd v
mul_value f (inf s') y s t a c b d C D v w = absurd v
mul_value f (fin s' m e) nan s t a c b d C D v w = absurd w
mul_value f (fin s' m e) (inf t') s t a c b d C D v w = absurd w
mul_value f (fin s' m e) (fin t' n h) s t a c b d C D v w =
    ap (λ (z : Bool). round f (unlike z t') (m * up e * (n * up h)) (down e * down h)) v.0
    ∙ ap (λ (z : Bool). round f (unlike s z) (m * up e * (n * up h)) (down e * down h)) w.0
    ∙ round_same f (unlike s t) (m * up e * (n * up h)) (down e * down h) (a * b) (c * d) (mul-pos (down_pos e) (down_pos h)) (mul-pos C D)
    (mul-mul-mul_comm (m * up e) (n * up h) c d ∙ ap (λ (z : ℕ). z * (n * up h * d)) v.1 ∙ ap (λ (z : ℕ). a * down e * z) w.1 ∙ mul-mul-mul_comm a (down e) b (down h))

pub div_value : (f : Format) (x y : Float) (s t : Bool) (a c b d : ℕ) → 0 < c → 0 < d → 0 < b → HasValue x s a c → HasValue y t b d → div f x y ≡ round f (unlike s t) (a * d) (b * c)
unfolding div
div_value f nan y s t a c b d C D B v w = absurd v
div_value f (inf s') y s t a c b d C D B v w = absurd v
div_value f (fin s' m e) nan s t a c b d C D B v w = absurd w
div_value f (fin s' m e) (inf t') s t a c b d C D B v w = absurd w
div_value f (fin s' m e) (fin t' zero h) s t a c b d C D B v w = absurd (none b (down h) (mul-pos B (down_pos h)) (sym w.1 ∙ ap (λ (z : ℕ). z * d) (zero-mul (up h)) ∙ zero-mul d))
  where
    none : (b k : ℕ) → 0 < b * k → b * k ≡ 0 → ⊥
    none b k p e = omega arith
div_value f (fin s' m e) (fin t' (suc n) h) s t a c b d C D B v w =
    cond_no (eqb (suc n) 0) _ (round f (unlike s' t') (m * up e * down h) (suc n * up h * down e)) (subst (λ (z : Bool). T (not z)) (sym (eqb-suc-zero n)) tt)
    ∙ ap (λ (z : Bool). round f (unlike z t') (m * up e * down h) (suc n * up h * down e)) v.0
    ∙ ap (λ (z : Bool). round f (unlike s z) (m * up e * down h) (suc n * up h * down e)) w.0
    ∙ round_same f (unlike s t) (m * up e * down h) (suc n * up h * down e) (a * d) (b * c) (mul-pos (mul-pos (some n) (up_pos h)) (down_pos e)) (mul-pos B C)
    (crossed (m * up e) (down h) b c a (down e) d (suc n * up h) v.1 w.1)
  where
    some : (n : ℕ) → 0 < suc n
    some n = omega arith

    crossed : (x h b c a e d y : ℕ) → x * c ≡ a * e → y * d ≡ b * h → x * h * (b * c) ≡ a * d * (y * e)
    crossed x h b c a e d y p q =
        simp (mul_assoc, mul_comm, mul_left_comm) (simp (mul_assoc, mul_comm, mul_left_comm) at (ap (λ (z : ℕ). z * (b * h)) p ∙ ap (λ (z : ℕ). a * e * z) (sym q)))

-- ---- a rounded fraction, in units of 2 ^ -149
abbrev pub unit : ℕ
unit = 2 ^ 149

abbrev pub units : ℕ → ℕ → ℕ
units a b = grid binary32 a b

either : (a b : Bool) → T (a || b) → T a ⊎ T b
either true b t = inl tt
either false b t = inr t

le_values : (x y : Float) (a c b d : ℕ) → HasValue x false a c → HasValue y false b d → T (le x y) → a * d ≤ b * c
unfolding le lt eq
le_values nan y a c b d v w t = absurd v
le_values (inf s) y a c b d v w t = absurd v
le_values (fin true m e) y a c b d v w t = absurd (true≢false v.0)
le_values (fin false m e) nan a c b d v w t = absurd w
le_values (fin false m e) (inf s) a c b d v w t = absurd w
le_values (fin false m e) (fin true n h) a c b d v w t = absurd (true≢false w.0)
le_values (fin false m e) (fin false n h) a c b d v w t =
    transfer a b c d (m * up e) (n * up h) (down e) (down h) (down_pos e) (down_pos h) (sym v.1) (sym w.1)
    (elim (either (ltb (m * up e * down h) (n * up h * down e)) _ t) [
      | inl k ↦ le_of_lt (ltb→lt (m * up e * down h) (n * up h * down e) k)
      | inr k ↦ le_of_eq (eqb→eq (m * up e * down h) (n * up h * down e) (and_l (eqb (m * up e * down h) (n * up h * down e)) _ k))
    ])

between_finite : (x y : Float) (a c b d : ℕ) → HasValue x false a c → HasValue y false b d → (z : Float) → T (le x z) → T (le z y) → T (finite z)
unfolding le lt eq
between_finite x y a c b d v w (fin s m e) p q = tt
between_finite x y a c b d v w nan p q = absurd q
between_finite nan y a c b d v w (inf s) p q = absurd v
between_finite (inf t) y a c b d v w (inf s) p q = absurd v
between_finite (fin t m e) nan a c b d v w (inf s) p q = absurd w
between_finite (fin t m e) (inf t') a c b d v w (inf s) p q = absurd w
between_finite (fin t m e) (fin t' n h) a c b d v w (inf true) p q = absurd p
between_finite (fin t m e) (fin t' n h) a c b d v w (inf false) p q = absurd q

-- a / b rounded is finite, and lies between p / 2 ^ j and q / 2 ^ j
pub record Within (j a b p q : ℕ) : Type 0 where
  pub value : HasValue (round binary32 false a b) false (units a b) unit
  pub low : p * unit ≤ units a b * 2 ^ j
  pub high : units a b * 2 ^ j ≤ q * unit

module _ (j : ℕ) (J : j ≤ 149) where
  exactly : (q : ℕ) → q < 2 ^ 24 → HasValue (round binary32 false q (2 ^ j)) false q (2 ^ j)
  exactly q h =
      round_exact binary32 false q (2 ^ j) q (149 - j) (pow_pos j) h
      (lt_of_lt_of_le (shl_lt 24 (149 - j) h) (pow_mono (room j)))
      (ap (λ (z : ℕ). q * z) (ap (λ (z : ℕ). 2 ^ z) (parts j J) ∙ pow-add 2 (149 - j) j) ∙ sym (mul_assoc q (2 ^ (149 - j)) (2 ^ j)))
    where
      parts : (j : ℕ) → j ≤ 149 → 149 ≡ 149 - j + j
      parts j h = omega arith

      room : (j : ℕ) → 24 + (149 - j) ≤ 277
      room j = omega arith

  pub within : (a b p q : ℕ) → 0 < b → q < 2 ^ 24 → p * b ≤ a * 2 ^ j → a * 2 ^ j ≤ q * b → Within j a b p q
  within a b p q B h lo hi =
      let r = round binary32 false a b in
      let p-lt : p < 2 ^ 24 = lt_of_le_of_lt (le_of_mul-le-mul_right (le_trans lo hi) B) h in
      let above : T (le (round binary32 false p (2 ^ j)) r) = round_mono binary32 p (2 ^ j) a b (pow_pos j) B lo in
      let below : T (le r (round binary32 false q (2 ^ j))) = round_mono binary32 a b q (2 ^ j) B (pow_pos j) hi in
      let v : HasValue r false (units a b) unit = round_val binary32 a b (round_under binary32 a b (between_finite _ _ p (2 ^ j) q (2 ^ j) (exactly p p-lt) (exactly q h) r above below)) in
      record {
        value = v;
        low = le_values (round binary32 false p (2 ^ j)) r p (2 ^ j) (units a b) unit (exactly p p-lt) v above;
        high = le_values r (round binary32 false q (2 ^ j)) (units a b) unit q (2 ^ j) v (exactly q h) below;
      }

-- the same value with either sign
pub signed : (s : Bool) (a b g : ℕ) → HasValue (round binary32 false a b) false g unit → HasValue (round binary32 s a b) s g unit
signed false a b g v = v
signed true a b g v = subst (λ (x : Float). HasValue x true g unit) (sym (round_neg binary32 false a b)) (neg_value (round binary32 false a b) false g unit v)
