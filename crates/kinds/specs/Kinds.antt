-- How two answer lines differ: 02, Q-9, "one kind, the first that applies: missing, refusal, type, value, nan, zero". Definitions only.
use Rattle.std.specs.Prelude.{ℕ, suc, ◌%◌, Bool, true, false, cond, ◌&&◌, ◌||◌, List, [], map, ltb, eqb, take}
use Rattle.half.specs.Format.{f16, f32, top, infinity}
use Rattle.values.specs.declared.Scalar.{Scalar}
use Rattle.values.specs.declared.Scalar.TheVariants.{Boolean, I32, U32, F32, F16}
use Rattle.values.specs.declared.Value.{Value}
use Rattle.values.specs.Value.{scalar_of, lane_count, same_kind}
use Rattle.buffers.specs.Text.{bytes, same_bytes}
use Rattle.listings.specs.declared.Answered.{Answered}
use Rattle.listings.specs.Answers.{read_answer}
use Rattle.kinds.specs.declared.Difference.{Difference}
use Rattle.kinds.specs.declared.Difference.TheVariants.{Alike, Missing, Refusal, OtherType, OtherValue, NanBits, ZeroSign}

-- "missing, refusal, type, value, nan, zero": a kind's number, 0 of none, and its word
abbrev pub kind_number : Difference → ℕ
kind_number Alike = 0
kind_number Missing = 1
kind_number Refusal = 2
kind_number OtherType = 3
kind_number OtherValue = 4
kind_number NanBits = 5
kind_number ZeroSign = 6

abbrev pub kind_word : Difference → List ℕ
kind_word Alike = []
kind_word Missing = bytes "missing"
kind_word Refusal = bytes "refusal"
kind_word OtherType = bytes "type"
kind_word OtherValue = bytes "value"
kind_word NanBits = bytes "nan"
kind_word ZeroSign = bytes "zero"

-- ---- lanes

-- a float's pattern where zeros of either sign count as +0 and, if `nans`, every NaN as one; the sign weighs h, the infinity's pattern is inf
abbrev pub normal_float : Bool → ℕ → ℕ → ℕ → ℕ
normal_float nans h inf x = cond (nans && ltb inf (x % h)) (suc inf) (cond (eqb (x % h) 0) 0 x)

-- bools and integers stay as they are
unfoldable pub normal_lane : Bool → Scalar → ℕ → ℕ
normal_lane nans Boolean x = x
normal_lane nans I32 x = x
normal_lane nans U32 x = x
normal_lane nans F32 x = normal_float nans (top f32) (infinity f32) x
normal_lane nans F16 x = normal_float nans (top f16) (infinity f16) x

-- the lanes of two values of one type are the same once such lanes count as one
unfoldable pub same_lanes : Bool → Value → Value → Bool
same_lanes nans v w =
    let s = scalar_of v.kind in
    let n = lane_count v.kind in
    same_bytes (map (normal_lane nans s) (take n v.lanes)) (map (normal_lane nans s) (take n w.lanes))

-- ---- lines

-- "Type: the types differ"; "a pair and a lone value differ in type", since a lone value's second is empty
unfoldable pub same_types : Answered → Answered → Bool
same_types a b = same_kind a.first.kind b.first.kind && same_kind a.second.kind b.second.kind

unfoldable pub same_answers : Bool → Answered → Answered → Bool
same_answers nans a b = same_lanes nans a.first b.first && same_lanes nans a.second b.second

-- of two lines that are not the same to the byte. "Refusal: either line is one. Type: the types differ. Value: some lane differs by more than NaN bits or a zero's sign. Nan: only NaN bits or zero signs differ, at least one of the former. Zero: only zero signs."
unfoldable pub answer_kind : Answered → Answered → Difference
answer_kind a b =
    cond (a.refused || b.refused) Refusal
    (cond (same_types a b) (cond (same_answers true a b) (cond (same_answers false a b) ZeroSign NanBits) OtherValue) OtherType)

-- of two lines
unfoldable pub line_kind : List ℕ → List ℕ → Difference
line_kind l r = cond (same_bytes l r) Alike (answer_kind (read_answer l) (read_answer r))
