-- Each lane function gives a lane of its scalar: an integer is cut to 32 bits or chosen among those given, a float is the pattern of a number that fits its format, a count is at most 32. Assumes nothing.
use Prim.Native.Nat.{ℕ, zero, suc, ◌+◌, ◌-◌, ◌*◌, ◌^◌, ◌<◌}
use mathlib.Core.Bool.{Bool, true, false, cond}
use mathlib.Core.Path.{◌≡◌, refl}
use native.Mathlib.Nat.{mod-lt}
use native.Mathlib.Omega.{arith}
use borrow.Author.Tests.{ltb-false}
use lib.Count.{ones-le, leading_le, trailing_le}
use lib.Dec.{T, lit<, ltb, eqb}
use lib.Ieee as Ieee
use lib.Ieee.{Float, binary32, of_bits, to_bits, fits}
use lib.Ieee.Bits.{to_bits-lt, of_bits-fits}
use lib.Ieee.Fits.{cond-fits, add-fits, sub-fits, mul-fits}
use Rattle.half.specs.Format.{Format, f16, f32, top, nan, magnitude, negative, is_nan}
use Rattle.half.specs.Convert.{single_of}
use Rattle.half.proofs.Signs.{signed_below}
use Rattle.values.specs.declared.Scalar.{Scalar}
use Rattle.values.specs.declared.Scalar.TheVariants.{Boolean, I32, U32, F32, F16}
use Rattle.values.specs.Value.{lane_bits}
use Rattle.numeric.specs.Numeric.{one, abs_lane, sign_float, sign_lane, leading_lane, ones_lane, trailing_lane}
use Rattle.limits.specs.Limits.{max_lane, min_lane, clamp_lane, saturate_lane, step_lane}
use Rattle.limits.specs.Program.{below_of, other_of}
use Rattle.limits.proofs.Chosen.{max_is, min_is}
use Rattle.products.specs.Products.{cross_lane, summed, dot_word, dot_lane}
use Rattle.numeric.proofs.Counts.{ones_are, leading_are, trailing_are}

-- what a lane of the scalar is below
abbrev pub bound : Scalar → ℕ
bound s = 2 ^ lane_bits s

pub one_of : (b : Bool) {x y n : ℕ} → x < n → y < n → cond b x y < n
one_of true p q = p
one_of false p q = q

-- ---- abs, sign, counts

negated : (x : ℕ) (b : Bool) → ltb x 0x8000_0000 ≡ b → x < 2 ^ 32 → cond b x (2 ^ 32 - x) < 2 ^ 32
negated x true e h = h
negated x false e h = omega (arith, ltb-false x 0x8000_0000 e)

pub abs_below : (s : Scalar) (x : ℕ) → x < bound s → abs_lane s x < bound s
abs_below Boolean x h = h
abs_below I32 x h = negated x (ltb x 0x8000_0000) refl h
abs_below U32 x h = h
abs_below F32 x h = omega arith
abs_below F16 x h = omega arith

sign_float_lem : (f : Format) (x : ℕ) → nan f < 2 * top f → one f < top f → x < 2 * top f → sign_float f x < 2 * top f
sign_float_lem f x n o h = one_of (is_nan f x) n (one_of (eqb (magnitude f x) 0) h (signed_below f (negative f x) (one f) o))

pub sign_below : (s : Scalar) (x : ℕ) → x < bound s → sign_lane s x < bound s
sign_below Boolean x h = h
sign_below I32 x h = one_of (ltb x 0x8000_0000) (omega arith) (lit< tt)
sign_below U32 x h = omega arith
sign_below F32 x h = sign_float_lem f32 x (lit< tt) (lit< tt) h
sign_below F16 x h = sign_float_lem f16 x (lit< tt) (lit< tt) h

pub leading_below : (x : ℕ) → x < 2 ^ 32 → leading_lane x < 2 ^ 32
unfolding leading_lane
leading_below x h = rw (leading_are 32 x h) (omega (arith, leading_le 32 x))

pub ones_below : (x : ℕ) → x < 2 ^ 32 → ones_lane x < 2 ^ 32
unfolding ones_lane
ones_below x h = rw (ones_are 32 x h) (omega (arith, ones-le 32 x h))

pub trailing_below : (x : ℕ) → trailing_lane x < 2 ^ 32
unfolding trailing_lane
trailing_below x = rw (trailing_are 32 x) (omega (arith, trailing_le 32 x))

-- ---- min, max, clamp, saturate, step

number_below : (x y : ℕ) (a b : Bool) → to_bits binary32 (cond a (of_bits binary32 y) (cond b (of_bits binary32 y) (of_bits binary32 x))) < 2 ^ 32
number_below x y a b =
    let u = of_bits binary32 x in
    let v = of_bits binary32 y in
    to_bits-lt binary32 _ (cond-fits binary32 a v (cond b v u) (of_bits-fits binary32 y) (cond-fits binary32 b v u (of_bits-fits binary32 y) (of_bits-fits binary32 x)))

other_below : (s : Scalar) (second : Bool) (x y : ℕ) → x < bound s → y < bound s → other_of s second x y < bound s
other_below Boolean second x y h g = h
other_below I32 second x y h g = one_of second g h
other_below U32 second x y h g = one_of second g h
other_below F32 second x y h g = number_below x y (Ieee.is_nan (of_bits binary32 x)) second
other_below F16 second x y h g = h

pub max_below : (s : Scalar) (x y : ℕ) → x < bound s → y < bound s → max_lane s x y < bound s
max_below s x y h g = rw (max_is s x y) at (other_below s (below_of s x y) x y h g)

pub min_below : (s : Scalar) (x y : ℕ) → x < bound s → y < bound s → min_lane s x y < bound s
min_below s x y h g = rw (min_is s x y) at (other_below s (below_of s y x) x y h g)

pub clamp_below : (s : Scalar) (x y z : ℕ) → x < bound s → y < bound s → z < bound s → clamp_lane s x y z < bound s
clamp_below s x y z h g k = min_below s (max_lane s x y) z (max_below s x y h g) k

pub saturate_below : (x : ℕ) → x < 2 ^ 32 → saturate_lane x < 2 ^ 32
saturate_below x h = clamp_below F32 x 0 (one f32) h (lit< tt) (lit< tt)

pub step_below : (s : Scalar) (edge x : ℕ) → x < bound s → step_lane s edge x < bound s
step_below Boolean edge x h = h
step_below I32 edge x h = h
step_below U32 edge x h = h
step_below F32 edge x h = one_of (Ieee.le (of_bits binary32 edge) (of_bits binary32 x)) {x = one f32} {y = 0} (lit< tt) (lit< tt)
step_below F16 edge x h = one_of (Ieee.le (of_bits binary32 (single_of edge)) (of_bits binary32 (single_of x))) {x = one f16} {y = 0} (lit< tt) (lit< tt)

-- ---- cross, dot

pub cross_below : (a d b c : ℕ) → cross_lane a d b c < 2 ^ 32
cross_below a d b c = to_bits-lt binary32 _ (sub-fits binary32 _ _)

-- what holds of each term and of each sum of two holds of a sum
sums : {A : Type 0} (P : A → Type 0) (plus : A → A → A) (p : ℕ → A) → ((i : ℕ) → P (p i)) → ((x y : A) → P (plus x y)) → (n : ℕ) → P (summed plus p n)
sums P plus p h g zero = h zero
sums P plus p h g (suc n) = g (summed plus p n) (p (suc n))

dot_word_lem : (a b : ℕ → ℕ) (n : ℕ) → dot_word a b n < 2 ^ 32
dot_word_lem a b n = sums (λ (x : ℕ). x < 2 ^ 32) _ _ (λ i. mod-lt (a i * b i) (lit< tt)) (λ x y. mod-lt (x + y) (lit< tt)) n

pub dot_below : (s : Scalar) (a b : ℕ → ℕ) (n : ℕ) → dot_lane s a b n < bound s
dot_below Boolean a b n = lit< tt
dot_below I32 a b n = dot_word_lem a b n
dot_below U32 a b n = dot_word_lem a b n
dot_below F32 a b n = to_bits-lt binary32 _ (sums (λ (x : Float). T (fits binary32 x)) _ _ (λ i. mul-fits binary32 (of_bits binary32 (a i)) (of_bits binary32 (b i))) (λ x y. add-fits binary32 x y) n)
dot_below F16 a b n = lit< tt
