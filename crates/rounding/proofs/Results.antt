-- The result of a finite number made whole: its sign is the number's and its size a whole number, exactly. A number either is whole, and stays, or has
-- so few digits before the point that the result fits the format, far below the infinity. Assumes nothing.
use mathlib.Core.Path.{◌≡◌, refl, sym, ap, ap₂, ◌∙◌}
use mathlib.Core.Logic.{◌⊎◌, inl, inr}
use Prim.Native.Nat.{ℕ, suc, ◌+◌, ◌-◌, ◌*◌, ◌%◌, ◌^◌, ◌≤◌, ◌<◌}
use native.Mathlib.Nat.{le_trans, le_of_eq, lt_of_lt_of_le, lt_of_le_of_lt, mul_assoc, add_comm, mul-le-mul, mul-le-mul_right, mul-lt-mul_of_pos_right, div-lt_iff_lt-mul, two-pow-succ}
use native.Mathlib.Omega.{arith}
use mathlib.Core.Bool.{Bool, cond}
use borrow.Author.Tests.{le-ltb, le-leb, lt-leb}
use lib.Dec.{lit<, lit≤}
use lib.Pow.{pow_pos, pow_mono, pow-add}
use Rattle.half.specs.Format.{Format, f16, f32, hidden, top, infinity, nan, magnitude, negative, signed, is_nan, lowest, units, pattern}
use Rattle.half.proofs.Closest.{split}
use Rattle.half.proofs.Sizes.{power_next, parts, pattern_units, units_pattern, units_full, lt_of_units}
use Rattle.half.proofs.Signs.{top_is, infinity_below, negative_signed, magnitude_signed, signed_below}
use Rattle.rounding.specs.declared.Way.{Way}
use Rattle.rounding.specs.Rounding.{one, whole_size, whole_magnitude, whole}
use Rattle.rounding.specs.Laws.{Deep, Finite}
use Rattle.rounding.specs.Neighbours.{number_of, whole_number}
use Rattle.rounding.proofs.Ways.{size_exact, size_bounds}

-- ---- a deep format: the exponent's field of 0.5 stands halfway to that of the infinity
pub deep_f16 : Deep f16
deep_f16 = record { exponent = lit≤ tt; fraction = lit< tt; range = lit< tt }

pub deep_f32 : Deep f32
deep_f32 = record { exponent = lit≤ tt; fraction = lit< tt; range = lit< tt }

abbrev pub field : Format → ℕ
field f = 2 ^ (f.exponent - 1) - 2

pub record Fields (f : Format) : Type 0 where
  pub weight : 2 ^ (f.exponent - 1) ≡ field f + 2
  pub low : 2 ≤ field f
  pub even : field f % 2 ≡ 0
  pub range : f.fraction < field f + 2
  pub lowest_is : lowest f ≡ field f + f.fraction
  pub infinity_is : infinity f ≡ 2 * (field f * hidden f) + 3 * hidden f

pub fields_of : (f : Format) → Deep f → Fields f
fields_of f d =
    let e = f.exponent in
    let w = 2 ^ (e - 1) in
    let four : 4 ≤ w = pow_mono {i = 2} {j = e - 1} (omega (arith, d.exponent)) in
    let W : w ≡ field f + 2 = omega arith in
    let half-weight : w ≡ 2 ^ (e - 2) + 2 ^ (e - 2) = ap (λ (x : ℕ). 2 ^ x) (omega (arith, d.exponent)) ∙ two-pow-succ (e - 2) in
    let next : e ≡ suc (e - 1) = omega (arith, d.exponent) in
    let T : top f ≡ (w + w) * hidden f = ap (λ (x : ℕ). x * hidden f) (ap (λ (x : ℕ). 2 ^ x) next ∙ two-pow-succ (e - 1)) in
    record { weight = W; low = omega arith; even = omega (arith, half-weight); range = omega (arith, d.range); lowest_is = omega arith; infinity_is = omega (arith, top_is f, ap (λ (x : ℕ). x * hidden f) W) }

pub power_split : (n k d : ℕ) → n ≡ k + d → 2 ^ n ≡ 2 ^ d * 2 ^ k
power_split n k d e = ap (λ (x : ℕ). 2 ^ x) (e ∙ add_comm k d) ∙ pow-add 2 d k

pub first_size : (f : Format) (k : ℕ) → units f (k * hidden f + hidden f) ≡ hidden f * 2 ^ k
first_size f k = units_full f k (hidden f) (le_of_eq refl) (omega (arith, pow_pos f.fraction))

-- ---- whole numbers up to 2 ^ fraction fit the format
few_exact : (f : Format) (n : ℕ) → n ≤ hidden f → units f (pattern f (n * one f)) ≡ n * one f
few_exact f n l = units_pattern f (lowest f) n (omega (arith, two-pow-succ f.fraction))

pub few_finite : (f : Format) → Deep f → (n : ℕ) → n ≤ hidden f → pattern f (n * one f) < infinity f
few_finite f d n l =
    let F = fields_of f d in
    let k = suc (lowest f) in
    let few : n < 2 ^ suc f.fraction = omega (arith, two-pow-succ f.fraction, pow_pos f.fraction) in
    lt_of_lt_of_le
    (lt_of_units f (pattern f (n * one f)) (k * hidden f + hidden f) (lt_of_lt_of_le (lt_of_le_of_lt (le_of_eq (few_exact f n l)) (mul-lt-mul_of_pos_right few (pow_pos (lowest f)))) (le_of_eq (power_next f.fraction (lowest f) ∙ sym (first_size f k)))))
    (omega (arith, F.infinity_is, mul-le-mul_right {m = k + 1} {n = 2 * field f + 3} (hidden f) (omega (arith, F.lowest_is, F.range))))

-- ---- made whole
module _ (f : Format) (w : Way) (s : Bool) (m : ℕ) where
  abbrev made : ℕ
  made = whole_size w s (units f m) (one f)

  -- with k zeros behind them, which reach to the point, digits stay
  pub stays : (k q : ℕ) → units f m ≡ q * 2 ^ k → lowest f ≤ k → made * one f ≡ units f m
  stays k q e h =
      let d = k - lowest f in
      let u : units f m ≡ q * 2 ^ d * one f = e ∙ ap (λ (x : ℕ). q * x) (power_split k (lowest f) d (omega arith)) ∙ sym (mul_assoc q (2 ^ d) (one f)) in
      ap (λ (a : ℕ). whole_size w s a (one f) * one f) u ∙ ap (λ (n : ℕ). n * one f) (size_exact w s (q * 2 ^ d) (one f) (pow_pos (lowest f))) ∙ sym u

  pub stays_as : made * one f ≡ units f m → whole_magnitude w s f m ≡ m
  unfolding whole_magnitude
  stays_as e = ap (pattern f) e ∙ pattern_units f m

  stays_or_few : (made * one f ≡ units f m) ⊎ (made ≤ hidden f)
  stays_or_few =
      let p = parts f m in
      elim (split p.k (lowest f)) [
        | inr g ↦ inl (stays p.k p.q p.size g)
        | inl l ↦
            let below : units f m < hidden f * one f =
            lt_of_lt_of_le (lt_of_le_of_lt (le_of_eq p.size) (mul-lt-mul_of_pos_right p.below (pow_pos p.k))) (le_trans (le_of_eq (power_next f.fraction p.k)) (mul-le-mul (le_of_eq refl) (pow_mono l))) in
            inr (omega (arith, size_bounds w s (units f m) (one f), (div-lt_iff_lt-mul (pow_pos (lowest f))).1 below))
      ]

  pub whole_exact : units f (whole_magnitude w s f m) ≡ made * one f
  unfolding whole_magnitude
  whole_exact = elim stays_or_few [ inl e ↦ ap (units f) (stays_as e) ∙ sym e | inr l ↦ few_exact f made l ]

  pub whole_below : Deep f → (b : ℕ) → infinity f ≤ b → m < b → whole_magnitude w s f m < b
  unfolding whole_magnitude
  whole_below d b i h = elim stays_or_few [ inl e ↦ lt_of_le_of_lt (le_of_eq (stays_as e)) h | inr l ↦ lt_of_lt_of_le (few_finite f d made l) i ]

-- ---- the definition by its cases
module _ (f : Format) (w : Way) (x : ℕ) where
  pub whole_past : infinity f ≤ magnitude f x → whole w f x ≡ cond (is_nan f x) (nan f) x
  unfolding whole
  whole_past h = rw (le-leb (infinity f) (magnitude f x) h)

  pub whole_is : Finite f x → whole w f x ≡ signed f (negative f x) (whole_magnitude w (negative f x) f (magnitude f x))
  unfolding whole
  whole_is h = rw (le-ltb (infinity f) (magnitude f x) (omega arith), lt-leb (infinity f) (magnitude f x) h)

module _ (f : Format) (d : Deep f) (w : Way) (x : ℕ) (h : Finite f x) where
  abbrev s : Bool
  s = negative f x

  abbrev r : ℕ
  r = whole_magnitude w s f (magnitude f x)

  finite : r < infinity f
  finite = whole_below f w s (magnitude f x) d (infinity f) (le_of_eq refl) h

  below : r < top f
  below = omega (arith, finite, infinity_below f)

  pub magnitude_kept : magnitude f (whole w f x) ≡ r
  magnitude_kept = ap (magnitude f) (whole_is f w x h) ∙ magnitude_signed f s r below

  pub sign_kept : negative f (whole w f x) ≡ s
  sign_kept = ap (negative f) (whole_is f w x h) ∙ negative_signed f s r below

  pub result_finite : Finite f (whole w f x)
  result_finite = lt_of_le_of_lt (le_of_eq magnitude_kept) finite

  pub result_below : whole w f x < 2 * top f
  result_below = lt_of_le_of_lt (le_of_eq (whole_is f w x h)) (signed_below f s r below)

  pub number_is : number_of f (whole w f x) ≡ whole_number f s (whole_size w s (units f (magnitude f x)) (one f))
  number_is = ap₂ (λ (t : Bool) (u : ℕ). record { sign = t; size = u }) sign_kept (ap (units f) magnitude_kept ∙ whole_exact f w s (magnitude f x))
