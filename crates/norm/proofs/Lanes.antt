-- What a code unpacks to: n / S rounded, with its sign, where n is the size of its number and S the scale. The least signed code, whose size is S + 1, is cut to -1,
-- which the next code unpacks to. Assumes nothing.
use mathlib.Core.Path.{◌≡◌, refl, sym, ap, ◌∙◌, subst}
use mathlib.Core.Logic.{inl, inr}
use Prim.Native.Nat.{ℕ, suc, ◌+◌, ◌-◌, ◌*◌, ◌^◌, ◌≤◌, ◌<◌}
use native.Mathlib.Nat.{le_trans, le_of_eq, le_of_lt, lt_of_lt_of_le, lt_of_le_of_lt, mul-one, one-mul, mul_comm, mul-lt-mul_of_pos_right, lt_of_mul-lt-mul_right}
use native.Mathlib.Omega.{arith}
use mathlib.Core.Bool.{Bool, true, false, cond, true≢false}
use borrow.Author.Tests.{lt-ltb, le-ltb, ne_eqb, eq-eqb}
use lib.Dec.{eqb, eqb→eq, T, lit<, lit≤}
use lib.IntN.{ℤ, pos, negsuc}
use lib.Pow.{pow_pos, pow_mono}
use lib.Ieee.{Float, nan, inf, fin, binary32, up, down, round, unlike, div, lt, of_int, to_bits}
use lib.Ieee.Fits.{down_pos}
use lib.Ieee.Exact.{HasValue}
use lib.Ieee.Scale.{round_same}
use Rattle.half.proofs.Closest.{split}
use Rattle.norm.specs.Norm.{scale, least, depth, number, unpacked_norm, normal_code}
use Rattle.norm.proofs.Widths.{scale_most, twice}
use Rattle.norm.proofs.Fractions.{unit, units, within, signed, div_value}
use Rattle.norm.proofs.Steps.{near, whole, not_below, not_below_minus_1}

-- ---- the division
quotient : (z : ℤ) (s : Bool) (n S : ℕ) → 0 < S → S ≤ 65536 → HasValue (of_int binary32 z) s n 1 → div binary32 (of_int binary32 z) (of_int binary32 (pos S)) ≡ round binary32 s n S
unfolding of_int
quotient z s n S P sm v =
    div_value binary32 (of_int binary32 z) (round binary32 false S 1) s false n 1 S 1 (omega arith) (omega arith) P v (whole false S sm)
    ∙ ap (λ (t : Bool). round binary32 t (n * 1) (S * 1)) (same s)
    ∙ ap (λ (k : ℕ). round binary32 s k (S * 1)) (mul-one n)
    ∙ ap (λ (k : ℕ). round binary32 s n k) (mul-one S)
  where
    same : (s : Bool) → unlike s false ≡ s
    same true = refl
    same false = refl

module _ (g : Bool) (w c : ℕ) (P : 0 < scale g w) (sm : scale g w ≤ 65536) where
  unpacks : (z : ℤ) (s : Bool) (n : ℕ) (b : Bool) → number g w c ≡ z → HasValue (of_int binary32 z) s n 1 → lt (round binary32 s n (scale g w)) (least g) ≡ b
      → unpacked_norm g w c ≡ to_bits binary32 (cond b (least g) (round binary32 s n (scale g w)))
  unfolding unpacked_norm
  unpacks z s n b e v t =
      ap (λ (x : Float). to_bits binary32 (cond (lt x (least g)) (least g) x)) (ap (λ (y : ℤ). div binary32 (of_int binary32 y) (of_int binary32 (pos (scale g w)))) e ∙ quotient z s n (scale g w) P sm v)
      ∙ ap (λ (a : Bool). to_bits binary32 (cond a (least g) (round binary32 s n (scale g w)))) t

-- ---- the lane of a code
pub record FromZero (g : Bool) (w c n : ℕ) : Type 0 where
  pub most : n ≤ scale g w
  pub code : normal_code g w c ≡ n
  pub lane : unpacked_norm g w c ≡ to_bits binary32 (round binary32 false n (scale g w))

-- of the size n + 1
pub record BelowZero (g : Bool) (w c n : ℕ) : Type 0 where
  pub most : suc n ≤ scale g w
  pub deep : suc n ≤ depth g w
  pub kept : lt (round binary32 true (suc n) (scale g w)) (least g) ≡ false
  pub code : normal_code g w c ≡ 2 ^ w - suc n
  pub lane : unpacked_norm g w c ≡ to_bits binary32 (round binary32 true (suc n) (scale g w))

pub data Lane (g : Bool) (w c : ℕ) : Type 0 where
  from_0 : (n : ℕ) → FromZero g w c n → Lane g w c
  below_0 : (n : ℕ) → BelowZero g w c n → Lane g w c

from_0_lane : (g : Bool) (w c : ℕ) → 0 < scale g w → scale g w ≤ 65536 → c ≤ scale g w → number g w c ≡ pos c → normal_code g w c ≡ c → FromZero g w c c
unfolding of_int
from_0_lane g w c P sm h e k =
    record {
      most = h;
      code = k;
      lane = unpacks g w c P sm (pos c) false c false e (whole false c (le_trans h sm)) (not_below g (round binary32 false c (scale g w)) (units c (scale g w)) (near (scale g w) c P sm h).0);
    }

below_0_lane : (w c n : ℕ) → scale true w < 65536 → suc n ≤ scale true w → suc n ≤ depth true w → number true w c ≡ negsuc n → normal_code true w c ≡ 2 ^ w - suc n → BelowZero true w c n
unfolding of_int
below_0_lane w c n sm h dp e k =
    let S = scale true w in
    let P : 0 < S = omega arith in
    let r = near S (suc n) P (le_of_lt sm) h in
    let kept : lt (round binary32 true (suc n) S) (least true) ≡ false = not_below_minus_1 (round binary32 true (suc n) S) (units (suc n) S) r.1.small (signed true (suc n) S (units (suc n) S) r.0) in
    record {
      most = h;
      deep = dp;
      kept = kept;
      code = k;
      lane = unpacks true w c P (le_of_lt sm) (negsuc n) true (suc n) false e (whole true (suc n) (le_trans h (le_of_lt sm))) kept;
    }

-- ---- the least signed code and the next
below_minus_1 : (x : Float) (u : ℕ) → unit < u → HasValue x true u unit → lt x (least true) ≡ true
unfolding lt
below_minus_1 nan u h v = absurd v
below_minus_1 (inf s) u h v = absurd v
below_minus_1 (fin false m e) u h v = absurd (true≢false (sym v.0))
below_minus_1 (fin true m e) u h v = lt-ltb (1 * down e) (m * up e * 1) (lt_of_mul-lt-mul_right unit (lt_of_lt_of_le (lt_of_le_of_lt (le_of_eq (ap (λ (z : ℕ). z * unit) (one-mul (down e)) ∙ mul_comm (down e) unit)) (mul-lt-mul_of_pos_right h (down_pos e))) (le_of_eq (sym (ap (λ (z : ℕ). z * unit) (mul-one (m * up e)) ∙ v.1)))))

least_cut : (w c n : ℕ) → scale true w ≡ suc n → 1 < scale true w → scale true w < 65536 → number true w c ≡ negsuc (suc n) → unpacked_norm true w c ≡ to_bits binary32 (least true)
unfolding of_int
least_cut w c n es two sm e =
    let S = scale true w in
    let P : 0 < S = omega arith in
    let r = within 23 (lit≤ tt) (suc (suc n)) S 8388609 16777215 P (lit< tt) (tight n S es sm) (wide n S es two) in
    unpacks true w c P (le_of_lt sm) (negsuc (suc n)) true (suc (suc n)) true e (whole true (suc (suc n)) (subst (λ (k : ℕ). suc k ≤ 65536) es sm))
    (below_minus_1 (round binary32 true (suc (suc n)) S) (units (suc (suc n)) S) (beyond (units (suc (suc n)) S) unit (pow_pos 149) r.low) (signed true (suc (suc n)) S (units (suc (suc n)) S) r.value))
  where
    tight : (n S : ℕ) → S ≡ suc n → S < 65536 → 8388609 * S ≤ suc (suc n) * 8388608
    tight n S e h = omega arith

    wide : (n S : ℕ) → S ≡ suc n → 1 < S → suc (suc n) * 8388608 ≤ 16777215 * S
    wide n S e t = omega arith

    beyond : (u l : ℕ) → 0 < l → 8388609 * l ≤ u * 8388608 → l < u
    beyond u l p h = omega arith

minus_1 : (S : ℕ) → 0 < S → round binary32 true S S ≡ least true
unfolding round
minus_1 S P = round_same binary32 true S S 1 1 P (omega arith) (mul_comm S 1)

next_exact : (w c n : ℕ) → scale true w ≡ suc n → scale true w < 65536 → BelowZero true w c n → unpacked_norm true w c ≡ to_bits binary32 (least true)
next_exact w c n es sm r = r.lane ∙ ap (to_bits binary32) (ap (λ (k : ℕ). round binary32 true k (scale true w)) (sym es) ∙ minus_1 (scale true w) (omega arith))

-- ---- every code of every width from 3 to 16
module _ (w : ℕ) (lo : 3 ≤ w) (hi : w ≤ 16) where
  -- the number of codes, by the least signed one
  pub record Counts : Type 0 where
    pub full : 2 ^ w ≡ 2 ^ (w - 1) + 2 ^ (w - 1)
    pub some : 4 ≤ 2 ^ (w - 1)
    pub few : 2 ^ (w - 1) ≤ 32768

  pub counts : Counts
  counts = record { full = twice w (omega arith); some = pow_mono (second w lo); few = pow_mono (fifteen w hi) }
    where
      second : (w : ℕ) → 3 ≤ w → 2 ≤ w - 1
      second w h = omega arith

      fifteen : (w : ℕ) → w ≤ 16 → w - 1 ≤ 15
      fifteen w h = omega arith

  negative : (c : ℕ) → 2 ^ (w - 1) ≤ c → number true w c ≡ negsuc (2 ^ w - suc c)
  negative c h = ap (λ (b : Bool). cond b (pos c) (negsuc (2 ^ w - suc c))) (le-ltb c (2 ^ (w - 1)) h)

  own_code : (c : ℕ) → (c ≡ 2 ^ (w - 1) → ⊥) → normal_code true w c ≡ c
  own_code c h = rw (ne_eqb c (2 ^ (w - 1)) h)

  upper_lane : (c : ℕ) → 2 ^ (w - 1) < c → c < 2 ^ w → BelowZero true w c (2 ^ w - suc c)
  upper_lane c l h =
      let k = counts in
      below_0_lane w c (2 ^ w - suc c) (omega arith) (omega arith) (omega arith) (negative c (le_of_lt l)) (own_code c (λ e. omega arith) ∙ omega arith)

  pub least_as_next : unpacked_norm true w (2 ^ (w - 1)) ≡ unpacked_norm true w (suc (2 ^ (w - 1)))
  least_as_next =
      let k = counts in
      let H = 2 ^ (w - 1) in
      let n = 2 ^ w - suc (suc H) in
      let es : scale true w ≡ suc n = omega arith in
      least_cut w H n es (omega arith) (omega arith) (negative H (omega arith) ∙ ap negsuc (omega arith))
      ∙ sym (next_exact w (suc H) n es (omega arith) (upper_lane (suc H) (omega arith) (omega arith)))

  least_lane : BelowZero true w (2 ^ (w - 1)) (2 ^ w - suc (suc (2 ^ (w - 1))))
  least_lane =
      let k = counts in
      let H = 2 ^ (w - 1) in
      let r = upper_lane (suc H) (omega arith) (omega arith) in
      record {
        most = r.most;
        deep = r.deep;
        kept = r.kept;
        code = rw (eq-eqb H H refl) (omega arith);
        lane = least_as_next ∙ r.lane;
      }

  signed_lane : (c : ℕ) → c < 2 ^ w → Lane true w c
  signed_lane c h =
      let k = counts in
      let H = 2 ^ (w - 1) in
      elim (split c H) [
        | inl l ↦ from_0 c (from_0_lane true w c (omega arith) (omega arith) (omega arith) (ap (λ (b : Bool). cond b (pos c) (negsuc (2 ^ w - suc c))) (lt-ltb c H l)) (own_code c (λ e. omega arith)))
        | inr l ↦
            elim (split H c) [
              | inl m ↦ below_0 (2 ^ w - suc c) (upper_lane c m h)
              | inr m ↦ subst (Lane true w) (at_most H c l m) (below_0 (2 ^ w - suc (suc H)) least_lane)
            ]
      ]
    where
      at_most : (a b : ℕ) → a ≤ b → b ≤ a → a ≡ b
      at_most a b h k = omega arith

  pub lane_of : (g : Bool) (c : ℕ) → c < 2 ^ w → Lane g w c
  lane_of false c h = let k = counts in from_0 c (from_0_lane false w c (omega arith) (omega (arith, scale_most false w hi)) (omega arith) refl refl)
  lane_of true c h = signed_lane c h

  -- a code and its normal code unpack alike
  pub unpacks_as_normal : (g : Bool) (c : ℕ) → unpacked_norm g w (normal_code g w c) ≡ unpacked_norm g w c
  unpacks_as_normal false c = refl
  unpacks_as_normal true c = go (eqb c (2 ^ (w - 1))) (eqb→eq c (2 ^ (w - 1)))
    where
      go : (b : Bool) → (T b → c ≡ 2 ^ (w - 1)) → unpacked_norm true w (cond b (suc c) c) ≡ unpacked_norm true w c
      go true e = ap (λ (n : ℕ). unpacked_norm true w (suc n)) (e tt) ∙ sym least_as_next ∙ ap (unpacked_norm true w) (sym (e tt))
      go false e = refl
