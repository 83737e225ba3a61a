-- What Q-3 says of the five builtins, each statement of specs/Laws. What is made whole has the number's sign and a whole size, to which the neighbours,
-- the other side of 0 and a second way come down; fract is half's rounding of the distance to the floor. Assumes nothing.
use mathlib.Core.Path.{◌≡◌, refl, sym, ap, ap₂, ◌∙◌, subst}
use mathlib.Core.Logic.{inl, inr}
use Prim.Native.Nat.{ℕ, suc, ◌+◌, ◌-◌, ◌*◌, ◌/◌, ◌%◌, ◌^◌, ◌≤◌, ◌<◌, min}
use native.Mathlib.Nat.{le_trans, le_of_eq, le_of_lt, lt_of_le_of_lt, eq-or-lt_of_le, le_of_mul-le-mul_right, mul-le-mul_right, one-mul, mul-one, mod-eq_of_lt, div-add-mod', zero-min, min-eq_left, min-le_right, two-pow-succ}
use native.Mathlib.Omega.{arith}
use mathlib.Core.Bool.{Bool, true, false, not, not-not}
use lib.Arith.{digits_div, digits_mod}
use lib.Pow.{pow_pos, pow-add}
use lib.Ieee.Nearest.{closest}
use borrow.Author.Tests.{le-ltb, lt-ltb}
use Rattle.half.specs.Format.{Format, f16, f32, hidden, top, infinity, nan, magnitude, negative, signed, is_nan, lowest, units, pattern, rounded, magnitude_of}
use Rattle.half.specs.Nearest.{apart}
use Rattle.half.proofs.Closest.{split, Closest, closest_is}
use Rattle.half.proofs.Sizes.{units_small, units_lt, pattern_small}
use Rattle.half.proofs.Rounding.{rounded_none, rounded_drop}
use Rattle.half.proofs.ToNearest.{rounds}
use Rattle.half.proofs.Signs.{infinity_below, infinity_pos, negative_signed, magnitude_signed, signed_parts, number}
use Rattle.half.proofs.Conversion.{nan_below, nan_is_nan}
use Rattle.values.specs.declared.Scalar.TheVariants.{Boolean, I32, U32, F32, F16}
use Rattle.rounding.specs.declared.Way.{Way}
use Rattle.rounding.specs.declared.Way.TheVariants.{Floor, Ceil, Trunc, Round}
use Rattle.rounding.specs.Rounding.{one, whole_size, whole_magnitude, whole, above, fract_magnitude, fract}
use Rattle.rounding.specs.Neighbours.{Number, number_of, whole_number, distance, opposite, IsFloor, IsCeil, IsTrunc, IsRound}
use Rattle.rounding.specs.Laws.{Deep, WidthsDeep, Finite, FloorIs, CeilIs, TruncIs, RoundIs, SignKept, InfinityStays, NanWorkedOut, mirror, Mirrored, TruncIsFloor, TruncIsCeil, StaysWhole, FractRounds, FractOfWhole, FractOfZero, FractOfTiny, FractUndefined, WholeLaneFits, FractLaneFits}
use Rattle.rounding.proofs.Ways.{inner, outer, nearer, size_exact, size_small, floor_gap, above_exact}
use Rattle.rounding.proofs.Results as results
use Rattle.rounding.proofs.Results.{field, fields_of, deep_f16, deep_f32, power_split, few_finite, whole_past, whole_is, magnitude_kept, result_finite, result_below, number_is}
use Rattle.rounding.proofs.Nearby.{beside, floor_at, ceil_at, trunc_at, round_at}
use Rattle.rounding.proofs.Subtraction.{fract_past, fract_is}

pub widths_deep : WidthsDeep
widths_deep = (deep_f16, deep_f32)

-- ---- among the whole numbers
module _ (P : Format → Number → Number → Type 0) (w : Way) (p : (f : Format) (s : Bool) (a : ℕ) → P f (record { sign = s; size = a }) (whole_number f s (whole_size w s a (one f)))) where
  of_each : (f : Format) → Deep f → (x : ℕ) → Finite f x → P f (number_of f x) (number_of f (whole w f x))
  of_each f d x h = subst (λ (r : Number). P f (number_of f x) r) (sym (number_is f d w x h)) (p f (negative f x) (units f (magnitude f x)))

pub floor_is : FloorIs
floor_is = of_each IsFloor Floor go
  where
    go : (f : Format) (s : Bool) (a : ℕ) → IsFloor f (record { sign = s; size = a }) (whole_number f s (whole_size Floor s a (one f)))
    go f false a = unfold whole_size in let i = inner a (one f) (pow_pos (lowest f)) _ refl in floor_at f _ false _ (omega arith) (omega arith)
    go f true a = unfold whole_size in let o = outer a (one f) (pow_pos (lowest f)) _ refl in floor_at f _ true _ (omega arith) (omega arith)

pub ceil_is : CeilIs
ceil_is = of_each IsCeil Ceil go
  where
    go : (f : Format) (s : Bool) (a : ℕ) → IsCeil f (record { sign = s; size = a }) (whole_number f s (whole_size Ceil s a (one f)))
    go f false a = unfold whole_size in let o = outer a (one f) (pow_pos (lowest f)) _ refl in ceil_at f _ false _ (omega arith) (omega arith)
    go f true a = unfold whole_size in let i = inner a (one f) (pow_pos (lowest f)) _ refl in ceil_at f _ true _ (omega arith) (omega arith)

pub trunc_is : TruncIs
unfolding whole_size
trunc_is = of_each IsTrunc Trunc (λ f s a. trunc_at f _ s _ refl (inner a (one f) (pow_pos (lowest f)) _ refl))

pub round_is : RoundIs
unfolding whole_size
round_is = of_each IsRound Round (λ f s a. let n = whole_size Round s a (one f) in round_at f (record { sign = s; size = a }) s n (rw (beside s a (n * one f)) (nearer a (one f) (pow_pos (lowest f)) n refl)))

-- ---- sign, infinities and NaN
pub sign_kept : SignKept
sign_kept f d w x h = results.sign_kept f d w x h

pub infinity_stays : InfinityStays
infinity_stays f w x e = whole_past f w x (le_of_eq (sym e)) ∙ rw (le-ltb (infinity f) (magnitude f x) (le_of_eq e))

pub nan_worked_out : NanWorkedOut
unfolding whole
nan_worked_out f w x e = rw e

-- what holds of a NaN, of an infinity and of what is finite holds of every number
by_cases : (f : Format) (x : ℕ) (P : Type 0) → (is_nan f x ≡ true → P) → (magnitude f x ≡ infinity f → P) → (Finite f x → P) → P
by_cases f x P n i h = go (is_nan f x) refl
  where
    go : (t : Bool) → is_nan f x ≡ t → P
    go true e = n e
    go false e = elim (eq-or-lt_of_le (number f x e)) [ inl k ↦ i k | inr l ↦ h l ]

-- ---- the other side of 0
magnitude_mirrored : (w : Way) (s : Bool) (f : Format) (m : ℕ) → whole_magnitude (mirror w) (not s) f m ≡ whole_magnitude w s f m
unfolding whole_magnitude whole_size
magnitude_mirrored Floor true f m = refl
magnitude_mirrored Floor false f m = refl
magnitude_mirrored Ceil true f m = refl
magnitude_mirrored Ceil false f m = refl
magnitude_mirrored Trunc s f m = refl
magnitude_mirrored Round s f m = refl

pub mirrored : Mirrored
mirrored f d w x b e =
    let s = negative f x in
    let m = magnitude f x in
    let y = opposite f x in
    let l : m < top f = omega (arith, number f x e, infinity_below f) in
    let S : negative f y ≡ not s = negative_signed f (not s) m l in
    let M : magnitude f y ≡ m = magnitude_signed f (not s) m l in
    let back : (n : ℕ) → signed f (not (not s)) n ≡ signed f s n = λ (n : ℕ). ap (λ (t : Bool). signed f t n) (not-not s) in
    elim (eq-or-lt_of_le (number f x e)) [
      | inl i ↦ infinity_stays f w x i ∙ sym (ap (opposite f) (infinity_stays f (mirror w) y (M ∙ i)) ∙ ap₂ (λ (t : Bool) (n : ℕ). signed f (not t) n) S M ∙ back m ∙ signed_parts f x b)
      | inr h ↦
          let k = lt_of_le_of_lt (le_of_eq M) h in
          whole_is f w x h
          ∙ sym
          (ap₂ (λ (t : Bool) (n : ℕ). signed f (not t) n) (sign_kept f d (mirror w) y k ∙ S) (magnitude_kept f d (mirror w) y k ∙ ap₂ (λ (t : Bool) (n : ℕ). whole_magnitude (mirror w) t f n) S M ∙ magnitude_mirrored w s f m) ∙ back (whole_magnitude w s f m))
    ]

-- ---- trunc, by the sign
pub trunc_is_floor : TruncIsFloor
unfolding whole whole_magnitude whole_size
trunc_is_floor f x e = rw e

pub trunc_is_ceil : TruncIsCeil
unfolding whole whole_magnitude whole_size
trunc_is_ceil f x e = rw e

-- ---- made whole again, in any way
pub stays_whole : StaysWhole
unfolding whole_magnitude
stays_whole f d v w x =
    by_cases f x (whole v f (whole w f x) ≡ whole w f x)
    (λ e. rw (nan_worked_out f w x e) (nan_worked_out f v (nan f) (nan_is_nan f d.fraction)))
    (λ i. rw (infinity_stays f w x i) (infinity_stays f v x i))
    (λ h.
    let s = negative f x in
    let n = whole_size w s (units f (magnitude f x)) (one f) in
    whole_is f v (whole w f x) (result_finite f d w x h)
    ∙ ap (λ (r : Number). signed f r.sign (pattern f (whole_size v r.sign r.size (one f) * one f))) (number_is f d w x h)
    ∙ ap (λ (k : ℕ). signed f s (pattern f (k * one f))) (size_exact v s n (one f) (pow_pos (lowest f)))
    ∙ sym (whole_is f w x h))

-- ---- fract
above_apart : (s : Bool) (a c : ℕ) → 0 < c → above s a c ≡ apart a (whole_size Floor s a c * c)
unfolding above
above_apart true a c C = omega (arith, (floor_gap true a c C).0)
above_apart false a c C = omega (arith, (floor_gap false a c C).0)

pub fract_rounds : FractRounds
unfolding fract_magnitude
fract_rounds f d x h =
    let s = negative f x in
    let u = units f (magnitude f x) in
    let e : distance (number_of f x) (number_of f (whole Floor f x)) ≡ above s u (one f) = ap (distance (number_of f x)) (number_is f d Floor x h) ∙ beside s u (whole_size Floor s u (one f) * one f) ∙ sym (above_apart s u (one f) (pow_pos (lowest f))) in
    rw (e, fract_is f x h) (rounds f (record { exponent = omega (arith, d.exponent); fraction = d.fraction }) (above s u (one f)) 1 (omega arith))

pub fract_of_whole : FractOfWhole
unfolding fract_magnitude magnitude_of
fract_of_whole f d x h e =
    let u = units f (magnitude f x) in
    let none : pattern f (rounded f 0 1) ≡ 0 = ap (pattern f) (rounded_none f 0 1 (omega arith)) ∙ pattern_small f 0 (omega arith) in
    let whole : u ≡ u / one f * one f = omega (arith, div-add-mod' u (one f)) in
    fract_is f x h
    ∙ ap (λ (a : ℕ). magnitude_of f a 1) (ap (λ (a : ℕ). above (negative f x) a (one f)) whole ∙ above_exact (negative f x) (u / one f) (one f) (pow_pos (lowest f)))
    ∙ ap (λ (m : ℕ). min m (infinity f)) none
    ∙ zero-min (infinity f)

pub fract_of_zero : FractOfZero
fract_of_zero f d x e =
    fract_of_whole f d x (omega (arith, infinity_pos f (omega (arith, d.exponent))))
    (ap (λ (m : ℕ). units f m % one f) e ∙ ap (λ (u : ℕ). u % one f) (units_small f 0 (pow_pos f.fraction)) ∙ mod-eq_of_lt (pow_pos (lowest f)))

-- an even multiple of c less at most half of c
nearly : (n c u : ℕ) → 0 < n → 0 < u → u * 2 ≤ c → closest (n * 2 * c - u) c ≡ n * 2
nearly n c u N U h =
    let q = n * 2 - 1 in
    let r = c - u in
    let l : r < c = omega arith in
    let last : n * 2 ≡ q + 1 = omega arith in
    let e : n * 2 * c - u ≡ q * c + r = omega (arith, ap (λ (z : ℕ). z * c) last) in
    rw e (go (closest (q * c + r) c) (subst (λ (z : ℕ). Closest z ((q * c + r) % c) c (closest (q * c + r) c)) (digits_div q l) (closest_is (q * c + r) c)) (digits_mod q l))
  where
    go : (x : ℕ) {r : ℕ} → Closest (n * 2 - 1) r c x → r ≡ c - u → x ≡ n * 2
    go x (Closest.down k i) e = omega arith
    go x (Closest.up k i) e = omega arith
    go x (Closest.even k i) e = omega arith

pub fract_of_tiny : FractOfTiny
unfolding fract_magnitude magnitude_of above
fract_of_tiny f d x h s n l =
    let p = f.fraction in
    let F = fields_of f d in
    let k = field f - 1 in
    let u = units f (magnitude f x) in
    let some : 0 < u = lt_of_le_of_lt (le_of_eq (sym (units_small f 0 (pow_pos p)))) (units_lt f 0 (magnitude f x) n) in
    let o : one f ≡ hidden f * 2 * 2 ^ k = power_split (lowest f) k (suc p) (omega (arith, F.lowest_is, F.low)) ∙ omega (arith, ap (λ (z : ℕ). z * 2 ^ k) (two-pow-succ p)) in
    let few : u * 2 ≤ 2 ^ k = le_of_mul-le-mul_right {k = hidden f * 2} (omega (arith, ap (λ (z : ℕ). u * z) (pow-add 2 p 2))) (omega (arith, pow_pos p)) in
    let wide : 2 ^ k ≤ hidden f * 2 ^ k = le_trans (le_of_eq (sym (one-mul (2 ^ k)))) (mul-le-mul_right (2 ^ k) (pow_pos p)) in
    let t = hidden f * 2 * 2 ^ k - u in
    let up : whole_size Floor true u (one f) ≡ 1 = size_small Floor true u (one f) (omega arith) ∙ rw (lt-ltb 0 u some) in
    let most : pattern f (one f) < infinity f = lt_of_le_of_lt (le_of_eq (ap (pattern f) (sym (one-mul (one f))))) (few_finite f d 1 (pow_pos p)) in
    fract_is f x h
    ∙ ap (λ (b : Bool). magnitude_of f (above b u (one f)) 1) s
    ∙ ap (λ (a : ℕ). magnitude_of f a 1) (ap (λ (n : ℕ). n * one f - u) up ∙ omega arith ∙ sym (mul-one t))
    ∙ ap (λ (z : ℕ). min (pattern f z) (infinity f))
    (rounded_drop f k t 0 0 k (omega (arith, pow-add 2 p k)) (omega (arith, pow-add 2 (suc p) k, ap (λ (z : ℕ). z * 2 ^ k) (two-pow-succ p))) refl ∙ ap (λ (z : ℕ). z * 2 ^ k) (nearly (hidden f) (2 ^ k) u (pow_pos p) some few) ∙ sym o)
    ∙ min-eq_left (le_of_lt most)

pub fract_undefined : FractUndefined
fract_undefined f x h = fract_past f x h

-- ---- as lanes
whole_below : (f : Format) → Deep f → (w : Way) (x : ℕ) → x < 2 * top f → whole w f x < 2 * top f
whole_below f d w x b =
    by_cases f x (whole w f x < 2 * top f)
    (λ e. rw (nan_worked_out f w x e) (omega (arith, nan_below f d.fraction)))
    (λ i. rw (infinity_stays f w x i) b)
    (λ h. result_below f d w x h)

pub whole_lane_fits : WholeLaneFits
whole_lane_fits w Boolean x h = h
whole_lane_fits w I32 x h = h
whole_lane_fits w U32 x h = h
whole_lane_fits w F32 x h = whole_below f32 deep_f32 w x h
whole_lane_fits w F16 x h = whole_below f16 deep_f16 w x h

fract_below : (f : Format) → Deep f → (x : ℕ) → fract f x < 2 * top f
unfolding fract_magnitude magnitude_of
fract_below f d x =
    elim (split (magnitude f x) (infinity f)) [
      | inl h ↦ omega (arith, fract_is f x h, min-le_right (pattern f (rounded f (above (negative f x) (units f (magnitude f x)) (one f)) 1)) (infinity f), infinity_below f)
      | inr g ↦ omega (arith, fract_past f x g, nan_below f d.fraction)
    ]

pub fract_lane_fits : FractLaneFits
fract_lane_fits Boolean x h = h
fract_lane_fits I32 x h = h
fract_lane_fits U32 x h = h
fract_lane_fits F32 x h = fract_below f32 deep_f32 x
fract_lane_fits F16 x h = fract_below f16 deep_f16 x
