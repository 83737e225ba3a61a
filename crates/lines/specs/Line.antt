-- What a line gives in a reading: 01, "Lines". Definitions only.
use Rattle.std.specs.Prelude.{ℕ, Bool, cond, List, eqb, ltb, length}
use Rattle.readings.specs.declared.Reading.{Reading}
use Rattle.values.specs.declared.Kind.{Kind}
use Rattle.values.specs.declared.Kind.TheVariants.{Empty}
use Rattle.values.specs.declared.Value.{Value}
use Rattle.values.specs.Value.{empty_value}
use Rattle.calls.specs.declared.Builtin.{Builtin}
use Rattle.calls.specs.declared.Builtin.TheVariants.{Bitcast}
use Rattle.calls.specs.declared.Call.{Call}
use Rattle.builtins.specs.declared.Answer.{Answer}
use Rattle.builtins.specs.Fold.{refused, fold_in}
use Rattle.buffers.specs.Text.{same_bytes}
use Rattle.cutting.specs.Cutting.{most_bytes}
use Rattle.spelling.specs.Types.{kind_of}
use Rattle.spelling.specs.Read.{read_value}
use Rattle.names.specs.Names.{name_of, builtin_of}
use Rattle.fields.specs.Fields.{field_at, argument_count}
use Rattle.misspellings.specs.declared.Misspelling.{Misspelling}
use Rattle.misspellings.specs.Misspellings.{line_fault}
use Rattle.answers.specs.declared.LineAnswer.{LineAnswer}
use Rattle.answers.specs.Answers.{values_text, told_in, spelled_in}

-- ---- the call that a line spells: a misspelled or missing value is the empty one there, so that the misspelling is told in 3's place

abbrev pub value_at : List ℕ → ℕ → Value
value_at line k = (read_value (field_at line k)).value

abbrev pub type_at : List ℕ → ℕ → Kind
type_at line k = kind_of (field_at line k)

unfoldable pub plain_call : Builtin → ℕ → List ℕ → Call
plain_call b n line = record { builtin = b; count = n; target = Empty; a = value_at line 1; b = value_at line 2; c = value_at line 3 }

-- "bitcast's first argument is a type"
unfoldable pub cast_call : Builtin → ℕ → List ℕ → Call
cast_call b n line = record { builtin = b; count = n; target = type_at line 1; a = value_at line 2; b = empty_value; c = empty_value }

abbrev pub is_cast : List ℕ → Bool
is_cast line = same_bytes (name_of Bitcast) (field_at line 0)

unfoldable pub call_of : List ℕ → Call
call_of line =
    cond (is_cast line) (cast_call (builtin_of (field_at line 0)) (argument_count line) line)
    (plain_call (builtin_of (field_at line 0)) (argument_count line) line)

-- ---- its answer

-- "7: the line has more than 400 bytes, newline not counted"
unfoldable pub line_of : Reading → List ℕ → Answer
line_of r line = cond (ltb most_bytes (length line)) (refused 7) (fold_in r (call_of line))

unfoldable pub answer_of : Reading → List ℕ → List ℕ
answer_of r line = values_text (line_of r line)

-- ---- its refusal: "9 type spelling or colon, 10 lane count, 11 digit; in lines they replace 3, in its place in the order, the leftmost fault first"

abbrev pub fault_of : List ℕ → Misspelling
fault_of line = line_fault (is_cast line) line

-- what is told in the place of a refusal n
abbrev pub in_place_of3 : ℕ → List ℕ → ℕ
in_place_of3 n line = cond (eqb n 3) (fault_of line).refusal n

unfoldable pub refusal_of : Reading → List ℕ → ℕ
refusal_of r line = in_place_of3 (line_of r line).refusal line

-- "the byte counted from 1 in the line"; 0 where no misspelling is told
unfoldable pub fault_place : Reading → List ℕ → ℕ
fault_place r line = cond (eqb (line_of r line).refusal 3) (fault_of line).place 0

-- ---- a line's answer in lent memory of a size

unfoldable pub refusal_in : Reading → ℕ → List ℕ → ℕ
refusal_in r room line = in_place_of3 (told_in room (line_of r line)) line

unfoldable pub written_in : Reading → ℕ → List ℕ → List ℕ
written_in r room line = spelled_in room (line_of r line)

unfoldable pub line_answer : Reading → ℕ → List ℕ → LineAnswer
line_answer r room line = record { refusal = refusal_in r room line; len = length (written_in r room line); place = fault_place r line }
