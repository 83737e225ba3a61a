-- The text's reading. What is rounded down, with 2 ^ w and a half on it so that nothing is below 0, rises with the lane's rank, by its sign; and within the range the clamped size is the lane's own. Assumes nothing.
use mathlib.Core.Path.{◌≡◌, ap, ◌∙◌, subst}
use Prim.Native.Nat.{ℕ, ◌+◌, ◌-◌, ◌*◌, ◌^◌, ◌≤◌, ◌<◌, zero-le, min}
use native.Mathlib.Nat.{le_trans, le-min, min-le_left, min-le_right, zero-min, mul-zero, mul-le-mul_left, mul-le-mul_right, mod-lt}
use native.Mathlib.Omega.{arith}
use mathlib.Core.Bool.{Bool, true, false, not, ◌&&◌, cond}
use lib.Dec.{lit<}
use lib.Pow.{pow_pos}
use lib.Ieee.Nearest.{div_mono}
use Rattle.readings.specs.declared.Reading.TheVariants as In
use Rattle.half.specs.Format.{f32, top, magnitude, negative, units}
use Rattle.half.specs.Nearest.{apart}
use Rattle.half.proofs.Sizes.{units_le, units_small}
use Rattle.norm.specs.Norm.{scale, number}
use Rattle.exact.specs.Exact.{one, clamped_size, exact_code}
use Rattle.exact.proofs.Floor.{Near, sum, raised}
use Rattle.exact.proofs.Codes.{Code, code}
use Rattle.brighter.specs.Brighter.{norm, NeverDarker, allowed, Close}
use Rattle.brighter.proofs.Numbers.{signed, code_number, signed_order, far}
use Rattle.brighter.proofs.Ranges as ranges

-- the clamped size by the sign and the magnitude
abbrev held : Bool → Bool → ℕ → ℕ
held g s m = cond (s && not g) 0 (min (units f32 m) one)

held_mono : (g s : Bool) (a b : ℕ) → a ≤ b → held g s a ≤ held g s b
held_mono g s a b h = go (s && not g)
  where
    go : (t : Bool) → cond t 0 (min (units f32 a) one) ≤ cond t 0 (min (units f32 b) one)
    go true = zero-le
    go false = le-min (le_trans (min-le_left (units f32 a) one) (units_le f32 a b h)) (min-le_right (units f32 a) one)

held_zero : (g s : Bool) (S a : ℕ) → a ≡ 0 → S * held g s a ≡ 0
held_zero g s S a e = ap (λ (u : ℕ). S * cond (s && not g) 0 (min u one)) (ap (units f32) e ∙ units_small f32 0 (pow_pos 23)) ∙ ap (λ (z : ℕ). S * z) (go (s && not g)) ∙ mul-zero S
  where
    go : (t : Bool) → cond t 0 (min 0 one) ≡ 0
    go true = zero-min one
    go false = zero-min one

sum_mono : (g : Bool) (W S a b : ℕ) → a < top f32 → b < top f32 → (s t : Bool) → cond s (top f32 - a) (top f32 + a) ≤ cond t (top f32 - b) (top f32 + b) → sum W s (S * held g s a) one ≤ sum W t (S * held g t b) one
sum_mono g W S a b A B s t h = by_signs ((2 * W + 1) * one) s t h
  where
    up : (M x y : ℕ) → x ≤ y → M + 2 * x ≤ M + 2 * y
    up M x y h = omega arith

    down : (M x y : ℕ) → y ≤ x → M - 2 * x ≤ M - 2 * y
    down M x y h = omega arith

    across : (M x y : ℕ) → M - 2 * x ≤ M + 2 * y
    across M x y = omega arith

    level : (M x y : ℕ) → x ≡ 0 → y ≡ 0 → M + 2 * x ≤ M - 2 * y
    level M x y e f = omega arith

    by_signs : (M : ℕ) (s t : Bool) → cond s (top f32 - a) (top f32 + a) ≤ cond t (top f32 - b) (top f32 + b) → cond s (M - 2 * (S * held g s a)) (M + 2 * (S * held g s a)) ≤ cond t (M - 2 * (S * held g t b)) (M + 2 * (S * held g t b))
    by_signs M false false h = up M (S * held g false a) (S * held g false b) (mul-le-mul_left S (held_mono g false a b (omega arith)))
    by_signs M true true h = down M (S * held g true a) (S * held g true b) (mul-le-mul_left S (held_mono g true b a (omega arith)))
    by_signs M true false h = across M (S * held g true a) (S * held g false b)
    by_signs M false true h = level M (S * held g false a) (S * held g true b) (held_zero g false S a (omega arith)) (held_zero g true S b (omega arith))

raised_mono : (W : ℕ) (s t : Bool) (a b d : ℕ) → 0 < d → sum W s a d ≤ sum W t b d → raised W s a d ≤ raised W t b d
raised_mono W s t a b d D h = div_mono (sum W s a d) (2 * d) (sum W t b d) (2 * d) (omega arith) (omega arith) (mul-le-mul_right (2 * d) h)

module _ (g : Bool) (w : ℕ) (W : 1 ≤ w) where
  number_is : (x : ℕ) (k : Code g w x) → number g w (exact_code g w x) ≡ signed (negative f32 x) k.place.n
  number_is x k = ap (number g w) k.code ∙ code_number g w W (negative f32 x) k.place.n (record { most = k.most; unsigned = k.unsigned })

  pub text_never_darker : NeverDarker In.Text (norm g w)
  text_never_darker x y o =
      let a = code g w x o.number in
      let b = code g w y o.other_number in
      rw (number_is x a, number_is y b) (signed_order (2 ^ w) a.place.n b.place.n (negative f32 x) (negative f32 y) a.place.most b.place.most (rw (a.place.place, b.place.place) at (places)))
    where
      places : raised (2 ^ w) (negative f32 x) (scale g w * clamped_size g x) one ≤ raised (2 ^ w) (negative f32 y) (scale g w * clamped_size g y) one
      places =
          raised_mono (2 ^ w) (negative f32 x) (negative f32 y) (scale g w * clamped_size g x) (scale g w * clamped_size g y) one (pow_pos 149)
          (unfold clamped_size in sum_mono g (2 ^ w) (scale g w) (magnitude f32 x) (magnitude f32 y) (mod-lt x (lit< tt)) (mod-lt y (lit< tt)) (negative f32 x) (negative f32 y) o.below)

  pub text_close : Close In.Text g w
  text_close x i =
      let c = code g w x (ranges.number g x i) in
      let k = subst (λ (z : ℕ). Near c.place.n (scale g w * z) one) (ranges.size_kept g x i) c.place.near in
      let n = c.place.n in
      let u = units f32 (magnitude f32 x) in
      rw (number_is x c, far (negative f32 x) n one (scale g w) u) (halves (n * one) (scale g w * u) one k.low k.high)
    where
      halves : (x y d : ℕ) → 2 * x ≤ 2 * y + d → 2 * y ≤ 2 * x + d → 64 * apart x y ≤ allowed In.Text * d
      halves x y d l h = omega arith
