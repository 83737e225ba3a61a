-- What a rewriter of calls relies on: 02, Q-4. Each statement is over `fold_in`, so that it is about what a call gives, in either reading, and says of the calls on both sides that
-- they are answered; `SameAnswer` is Q-4's equality, `SameBits` and `≡` are to the bit. Definitions only.
use Rattle.std.specs.Prelude.{◌≡◌, true}
use Rattle.readings.specs.declared.Reading.{Reading}
use Rattle.values.specs.declared.Scalar.TheVariants.{F32}
use Rattle.values.specs.declared.Size.TheVariants.{Three}
use Rattle.values.specs.declared.Kind.{Kind}
use Rattle.values.specs.declared.Kind.TheVariants.{Vec}
use Rattle.values.specs.declared.Value.{Value}
use Rattle.values.specs.Value.{Formed, lanewise}
use Rattle.calls.specs.declared.Builtin.{Builtin}
use Rattle.calls.specs.declared.Builtin.TheVariants.{Min, Max, Clamp, Cross, Dot, Transpose, Frexp, Ldexp}
use Rattle.calls.specs.Table.{Ordered, Vectors, Matrices, Singles, taken}
use Rattle.builtins.specs.declared.Answer.{Answer}
use Rattle.builtins.specs.Fold.{answered, fold_in}
use Rattle.builtins.specs.Calls.{call_one, call_two, call_three}
use Rattle.rewrites.specs.Equality.{SameValue, SameAnswer, SameBits, Number, negated}

-- a well-formed value of a type
pub record Of (k : Kind) (v : Value) : Type 0 where
  pub type : v.kind ≡ k
  pub formed : Formed v

module _ (r : Reading) where
  -- ---- what calls give

  abbrev pub one : Builtin → Value → Answer
  one f a = fold_in r (call_one f a)

  abbrev pub two : Builtin → Value → Value → Answer
  two f a b = fold_in r (call_two f a b)

  -- the value, as an argument of the next call
  abbrev pub first : Builtin → Value → Value → Value
  first f a b = (two f a b).first

  -- ---- min and max, "all arguments of min and max being of one type", which is one that they take

  abbrev pub Commutative : Builtin → Type 0
  Commutative f = (k : Kind) → taken Ordered k ≡ true → (a b : Value) → Of k a → Of k b → SameAnswer (two f a b) (two f b a)

  -- to the bit, which is more than is asked for
  abbrev pub Associative : Builtin → Type 0
  Associative f = (k : Kind) → taken Ordered k ≡ true → (a b c : Value) → Of k a → Of k b → Of k c → SameBits (two f (first f a b) c) (two f a (first f b c))

  abbrev pub Idempotent : Builtin → Type 0
  Idempotent f = (k : Kind) → taken Ordered k ≡ true → (a : Value) → Of k a → SameAnswer (two f a a) (answered a)

  -- and to the bit where no lane is NaN
  abbrev pub Itself : Builtin → Type 0
  Itself f = (k : Kind) → taken Ordered k ≡ true → (a : Value) → Of k a → Number a → two f a a ≡ answered a

  -- "max(a, min(a, b)) is a for every a that is not NaN", and so is min(a, max(a, b)): to the bit
  abbrev pub Absorbs : Builtin → Builtin → Type 0
  Absorbs f g = (k : Kind) → taken Ordered k ≡ true → (a b : Value) → Of k a → Of k b → Number a → two f a (first g a b) ≡ answered a

  -- min(a, min(a, b)) is min(a, b), to the bit and of NaNs too
  abbrev pub Repeats : Builtin → Type 0
  Repeats f = (k : Kind) → taken Ordered k ≡ true → (a b : Value) → Of k a → Of k b → SameBits (two f a (first f a b)) (two f a b)

  -- a value may be put in the place of one that is the same
  abbrev pub Respects : Builtin → Type 0
  Respects f =
      (k : Kind) → taken Ordered k ≡ true → (a b c d : Value) → Of k a → Of k b → Of k c → Of k d → SameValue a c → SameValue b d
      → SameAnswer (two f a b) (two f c d)

  -- clamp(e, low, high) is min(max(e, low), high)
  abbrev pub ClampsSo : Type 0
  ClampsSo = (k : Kind) → taken Ordered k ≡ true → (e l h : Value) → Of k e → Of k l → Of k h → SameBits (fold_in r (call_three Clamp e l h)) (two Min (first Max e l) h)

  -- ---- the others

  -- "cross(a, b) is the lane-wise negative of cross(b, a)"
  abbrev pub CrossTurns : Type 0
  CrossTurns = (a b : Value) → Of (Vec Three F32) a → Of (Vec Three F32) b → SameAnswer (two Cross a b) (answered (lanewise negated (first Cross b a)))

  -- "dot is commutative to the bit"
  abbrev pub DotCommutes : Type 0
  DotCommutes = (k : Kind) → taken Vectors k ≡ true → (a b : Value) → Of k a → Of k b → SameBits (two Dot a b) (two Dot b a)

  -- "transpose twice is the identity"
  abbrev pub TransposesBack : Type 0
  TransposesBack = (k : Kind) → taken Matrices k ≡ true → (m : Value) → Of k m → one Transpose (one Transpose m).first ≡ answered m

  -- "ldexp of what frexp gives returns x to the bit for every f32 that is not NaN"
  abbrev pub Rejoins : Type 0
  Rejoins = (k : Kind) → taken Singles k ≡ true → (x : Value) → Of k x → Number x → two Ldexp (one Frexp x).first (one Frexp x).second ≡ answered x

  -- ---- of any two values, well formed or not: what is refused is refused with the same number when its operands are swapped
  abbrev pub RefusedAlike : Builtin → Type 0
  RefusedAlike f = (a b : Value) → (two f a b).refusal ≡ (two f b a).refusal

  -- ---- all of them
  pub record Rewrites : Type 0 where
    pub min_commutes : Commutative Min
    pub max_commutes : Commutative Max
    pub min_associates : Associative Min
    pub max_associates : Associative Max
    pub min_idempotent : Idempotent Min
    pub max_idempotent : Idempotent Max
    pub min_itself : Itself Min
    pub max_itself : Itself Max
    pub max_absorbs : Absorbs Max Min
    pub min_absorbs : Absorbs Min Max
    pub min_repeats : Repeats Min
    pub max_repeats : Repeats Max
    pub min_respects : Respects Min
    pub max_respects : Respects Max
    pub clamps_so : ClampsSo
    pub cross_turns : CrossTurns
    pub dot_commutes : DotCommutes
    pub transposes_back : TransposesBack
    pub rejoins : Rejoins
    pub min_refused : RefusedAlike Min
    pub max_refused : RefusedAlike Max
    pub cross_refused : RefusedAlike Cross
    pub dot_refused : RefusedAlike Dot
