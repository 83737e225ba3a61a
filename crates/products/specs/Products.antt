-- The lanes of cross and dot: 01, "Rules of evaluation": "each f32 operation rounded once, in the order written. Integer products and sums wrap at 32 bits." Definitions only.
-- A lane function goes by the scalar. Where 01's table leaves a scalar out, no call comes that far, and the lane stays.
use Rattle.std.specs.Prelude.{ℕ, zero, suc, ◌+◌, ◌*◌, ◌%◌, ◌^◌, from_bits, to_bits}
use Rattle.std.specs.Float.Ieee as Ieee
use Rattle.std.specs.Float.{binary32}
use Rattle.values.specs.declared.Scalar.{Scalar}
use Rattle.values.specs.declared.Scalar.TheVariants.{Boolean, I32, U32, F32, F16}

-- a d - b c, as f32
abbrev pub cross_lane : ℕ → ℕ → ℕ → ℕ → ℕ
cross_lane a d b c = to_bits binary32 (Ieee.sub binary32 (Ieee.mul binary32 (from_bits binary32 a) (from_bits binary32 d)) (Ieee.mul binary32 (from_bits binary32 b) (from_bits binary32 c)))

-- p 0 + p 1 + .. + p n
abbrev pub summed : {A : Type 0} → (A → A → A) → (ℕ → A) → ℕ → A
summed plus p zero = p zero
summed plus p (suc n) = plus (summed plus p n) (p (suc n))

-- "dot adds the products from lane 0 up, starting with the first product": of lanes a and b, up to lane n
abbrev pub dot_word : (ℕ → ℕ) → (ℕ → ℕ) → ℕ → ℕ
dot_word a b n = summed (λ x y. (x + y) % 2 ^ 32) (λ i. a i * b i % 2 ^ 32) n

abbrev pub dot_float : (ℕ → ℕ) → (ℕ → ℕ) → ℕ → ℕ
dot_float a b n = to_bits binary32 (summed (Ieee.add binary32) (λ i. Ieee.mul binary32 (from_bits binary32 (a i)) (from_bits binary32 (b i))) n)

abbrev pub dot_lane : Scalar → (ℕ → ℕ) → (ℕ → ℕ) → ℕ → ℕ
dot_lane Boolean a b n = 0
dot_lane I32 a b n = dot_word a b n
dot_lane U32 a b n = dot_word a b n
dot_lane F32 a b n = dot_float a b n
dot_lane F16 a b n = 0
