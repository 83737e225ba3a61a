-- What Q-9 says of the kinds, sentence by sentence, over two answer lines and their lanes. Definitions only; proofs/Laws has the proof of each.
use Rattle.std.specs.Prelude.{ℕ, ◌<◌, ◌≡◌, ◌⊎◌, ◌↔◌, Bool, true, false, List, eqb}
use Rattle.half.specs.Format.{f16, f32, magnitude, is_nan}
use Rattle.values.specs.Value.{scalar_of, lane_count, is_type, lane}
use Rattle.values.specs.declared.Scalar.{Scalar}
use Rattle.values.specs.declared.Scalar.TheVariants.{Boolean, I32, U32, F32, F16}
use Rattle.values.specs.declared.Value.{Value}
use Rattle.listings.specs.declared.Answered.{Answered}
use Rattle.listings.specs.Answers.{read_answer}
use Rattle.kinds.specs.declared.Difference.TheVariants.{Alike, Missing, Refusal, OtherType, OtherValue, NanBits, ZeroSign}
use Rattle.kinds.specs.Kinds.{line_kind}

-- ---- two lanes of one scalar

abbrev pub zero_lane : Scalar → ℕ → Bool
zero_lane Boolean x = false
zero_lane I32 x = false
zero_lane U32 x = false
zero_lane F32 x = eqb (magnitude f32 x) 0
zero_lane F16 x = eqb (magnitude f16 x) 0

abbrev pub nan_lane : Scalar → ℕ → Bool
nan_lane Boolean x = false
nan_lane I32 x = false
nan_lane U32 x = false
nan_lane F32 x = is_nan f32 x
nan_lane F16 x = is_nan f16 x

-- they differ by "a zero's sign"
abbrev pub ByZeroSign : Scalar → ℕ → ℕ → Type 0
ByZeroSign s x y = (zero_lane s x ≡ true) × (zero_lane s y ≡ true) × (x ≡ y → ⊥)

-- they differ by "NaN bits"
abbrev pub ByNanBits : Scalar → ℕ → ℕ → Type 0
ByNanBits s x y = (nan_lane s x ≡ true) × (nan_lane s y ≡ true) × (x ≡ y → ⊥)

-- they differ "by more than NaN bits or a zero's sign"
abbrev pub ByMore : Scalar → ℕ → ℕ → Type 0
ByMore s x y = (x ≡ y → ⊥) × (ByNanBits s x y → ⊥) × (ByZeroSign s x y → ⊥)

-- ---- two answers

abbrev pub SameTypes : Answered → Answered → Type 0
SameTypes a b = (a.first.kind ≡ b.first.kind) × (a.second.kind ≡ b.second.kind)

-- some lane of two values of one type
abbrev pub LaneOf : (Scalar → ℕ → ℕ → Type 0) → Value → Value → Type 0
LaneOf P v w = (i : ℕ) × (i < lane_count v.kind) × P (scalar_of v.kind) (lane v i) (lane w i)

-- "some lane" of two answers of one type; a pair has the lanes of both its values
abbrev pub SomeLane : (Scalar → ℕ → ℕ → Type 0) → Answered → Answered → Type 0
SomeLane P a b = LaneOf P a.first b.first ⊎ LaneOf P a.second b.second

-- ---- two lines

-- an answer line with a value or two
pub record Answers (l : List ℕ) : Type 0 where
  pub ok : (read_answer l).ok ≡ true
  pub answered : (read_answer l).refused ≡ false

-- two such lines, not the same to the byte
pub record Apart (l r : List ℕ) : Type 0 where
  pub left : Answers l
  pub right : Answers r
  pub differ : l ≡ r → ⊥

-- "for each line that differs .. one kind": lines of the same bytes have none, and all others one
abbrev pub NoneWhereAlike : Type 0
NoneWhereAlike = (l r : List ℕ) → (line_kind l r ≡ Alike) ↔ (l ≡ r)

-- "Missing: one listing has ended.": never where both have a line
abbrev pub NeverMissing : Type 0
NeverMissing = (l r : List ℕ) → line_kind l r ≡ Missing → ⊥

-- "Refusal: either line is one."
abbrev pub RefusalWhere : Type 0
RefusalWhere = (l r : List ℕ) → (l ≡ r → ⊥) → (line_kind l r ≡ Refusal) ↔ (((read_answer l).refused ≡ true) ⊎ ((read_answer r).refused ≡ true))

-- "Type: the types differ."
abbrev pub TypeWhere : Type 0
TypeWhere = (l r : List ℕ) → Apart l r → (line_kind l r ≡ OtherType) ↔ (SameTypes (read_answer l) (read_answer r) → ⊥)

-- "a pair and a lone value differ in type"
abbrev pub PairAndLone : Type 0
PairAndLone = (l r : List ℕ) → Apart l r → (is_type (read_answer l).second.kind ≡ is_type (read_answer r).second.kind → ⊥) → line_kind l r ≡ OtherType

-- "Value: some lane differs by more than NaN bits or a zero's sign."
abbrev pub ValueWhere : Type 0
ValueWhere = (l r : List ℕ) → Apart l r → (line_kind l r ≡ OtherValue) ↔ (SameTypes (read_answer l) (read_answer r) × SomeLane ByMore (read_answer l) (read_answer r))

-- "Nan: only NaN bits or zero signs differ, at least one of the former."
abbrev pub NanWhere : Type 0
NanWhere = (l r : List ℕ) → Apart l r
    → (line_kind l r ≡ NanBits) ↔ (SameTypes (read_answer l) (read_answer r) × (SomeLane ByMore (read_answer l) (read_answer r) → ⊥) × SomeLane ByNanBits (read_answer l) (read_answer r))

-- "Zero: only zero signs.", and at least one
abbrev pub ZeroWhere : Type 0
ZeroWhere = (l r : List ℕ) → Apart l r
    → (line_kind l r ≡ ZeroSign)
    ↔ (SameTypes (read_answer l) (read_answer r) × (SomeLane ByMore (read_answer l) (read_answer r) → ⊥) × (SomeLane ByNanBits (read_answer l) (read_answer r) → ⊥)
    × SomeLane ByZeroSign (read_answer l) (read_answer r))
