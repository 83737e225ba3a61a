-- 02, Q-4: "with zeros of either sign taken as equal and all NaNs as one", of lanes, of values and of answers. Definitions only.
use Rattle.std.specs.Prelude.{ℕ, ◌≡◌, Bool, true, false, not, cond, ◌⊎◌, eqb}
use Rattle.half.specs.Format.{Format, f16, f32, nan, magnitude, negative, signed, is_nan}
use Rattle.values.specs.declared.Scalar.{Scalar}
use Rattle.values.specs.declared.Scalar.TheVariants.{Boolean, I32, U32, F32, F16}
use Rattle.values.specs.declared.Value.{Value}
use Rattle.values.specs.Value.{scalar_of, lane}
use Rattle.builtins.specs.declared.Answer.{Answer}
use Rattle.builtins.specs.Fold.{answered}

-- the lane that stands for all that are taken as one with it: the NaN that is worked out, +0, and each other lane for itself
abbrev pub stands_for_float : Format → ℕ → ℕ
stands_for_float f x = cond (is_nan f x) (nan f) (cond (eqb (magnitude f x) 0) 0 x)

abbrev pub stands_for : Scalar → ℕ → ℕ
stands_for Boolean x = x
stands_for I32 x = x
stands_for U32 x = x
stands_for F32 x = stands_for_float f32 x
stands_for F16 x = stands_for_float f16 x

-- two lanes taken as one; of floats that is `Spelled`, which is proved of it
abbrev pub SameLane : Scalar → ℕ → ℕ → Type 0
SameLane s x y = stands_for s x ≡ stands_for s y

-- the same bits, or both NaN, or both zeros
abbrev pub Spelled : Format → ℕ → ℕ → Type 0
Spelled f x y = (x ≡ y) ⊎ (((is_nan f x ≡ true) × (is_nan f y ≡ true)) ⊎ ((magnitude f x ≡ 0) × (magnitude f y ≡ 0)))

-- lane by lane
pub record SameValue (v w : Value) : Type 0 where
  pub type : v.kind ≡ w.kind
  pub lanes : (i : ℕ) → SameLane (scalar_of v.kind) (lane v i) (lane w i)

-- both answered, each with one value, and these the same
pub record SameAnswer (a b : Answer) : Type 0 where
  pub left : a ≡ answered a.first
  pub right : b ≡ answered b.first
  pub same : SameValue a.first b.first

-- both answered, and the same to the bit
pub record SameBits (a b : Answer) : Type 0 where
  pub passes : a.refusal ≡ 0
  pub same : a ≡ b

-- a lane that is NaN
abbrev pub nan_lane : Scalar → ℕ → Bool
nan_lane Boolean x = false
nan_lane I32 x = false
nan_lane U32 x = false
nan_lane F32 x = is_nan f32 x
nan_lane F16 x = is_nan f16 x

-- "that is not NaN": in no lane
abbrev pub Number : Value → Type 0
Number v = (i : ℕ) → nan_lane (scalar_of v.kind) (lane v i) ≡ false

-- the negative of an f32: its sign turned
abbrev pub negated : ℕ → ℕ
negated x = signed f32 (not (negative f32 x)) (magnitude f32 x)
