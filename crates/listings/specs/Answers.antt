-- Answer lines, read: 02, Q-9, "An answer line is a well-formed value, a frexp pair (a float value and i32s in its shape), or `refused` with a number and perhaps a place, one to three decimal digits each". Definitions only.
use Rattle.std.specs.Prelude.{ℕ, Bool, true, false, cond, ◌&&◌, List, [], ◌∷◌, leb, length}
use Rattle.values.specs.Value.{every, shaped, same_kind, empty_value}
use Rattle.values.specs.declared.Scalar.TheVariants.{I32}
use Rattle.values.specs.declared.Kind.{Kind}
use Rattle.values.specs.declared.Value.{Value}
use Rattle.calls.specs.Table.{Floats}
use Rattle.calls.specs.Table.{taken}
use Rattle.spelling.specs.declared.Fault.{Fault}
use Rattle.spelling.specs.declared.Fault.TheVariants.{Nothing, TypeSpelling, Lanes, Digit}
use Rattle.spelling.specs.declared.Reading.{Reading}
use Rattle.spelling.specs.Read.{read_value}
use Rattle.buffers.specs.Text.{byte, bytes, same_bytes}
use Rattle.fields.specs.Fields.{fields}
use Rattle.listings.specs.declared.Answered.{Answered}

-- "a line that is no answer line"
unfoldable pub no_answer : Answered
no_answer = record { ok = false; refused = false; first = empty_value; second = empty_value }

-- a refused line has two empty values
unfoldable pub refused_line : Answered
refused_line = record { ok = true; refused = true; first = empty_value; second = empty_value }

-- a lone value has an empty second
unfoldable pub values_line : Value → Value → Answered
values_line v w = record { ok = true; refused = false; first = v; second = w }

-- "a number and perhaps a place, one to three decimal digits each"
abbrev pub decimal_digit : ℕ → Bool
decimal_digit x = leb (byte "0") x && leb x (byte "9")

unfoldable pub is_number : List ℕ → Bool
is_number s = leb 1 (length s) && leb (length s) 3 && every decimal_digit s

-- "a frexp pair (a float value and i32s in its shape)": no matrix, which has no such shape
unfoldable pub is_pair : Kind → Kind → Bool
is_pair k l = taken Floats k && same_kind l (shaped I32 k)

-- 01 spells well-formed values, and only these
abbrev pub faultless : Fault → Bool
faultless Nothing = true
faultless TypeSpelling = false
faultless Lanes = false
faultless Digit = false

-- "a well-formed value"
abbrev pub lone_line : Reading → Answered
lone_line r = cond (faultless r.fault) (values_line r.value empty_value) no_answer

abbrev pub pair_line : Reading → Reading → Answered
pair_line r q =
    cond (faultless r.fault && faultless q.fault && is_pair r.value.kind q.value.kind) (values_line r.value q.value) no_answer

-- "or `refused`"
abbrev pub says_refused : List ℕ → Bool
says_refused s = same_bytes s (bytes "refused")

-- by the fields, which are "parted by one tab"
unfoldable pub of_fields : List (List ℕ) → Answered
of_fields [] = no_answer
of_fields (v ∷ []) = lone_line (read_value v)
of_fields (v ∷ w ∷ []) = cond (says_refused v) (cond (is_number w) refused_line no_answer) (pair_line (read_value v) (read_value w))
of_fields (v ∷ n ∷ p ∷ []) = cond (says_refused v && is_number n && is_number p) refused_line no_answer
of_fields (v ∷ n ∷ p ∷ x ∷ more) = no_answer

unfoldable pub read_answer : List ℕ → Answered
read_answer s = of_fields (fields s)
