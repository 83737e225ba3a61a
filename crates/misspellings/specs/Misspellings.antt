-- Which field of a line is wrongly spelled, what is wrong with it and where: 02, Q-2, "In lines, say what and where, the byte counted from 1 in the line." Definitions only.
use Rattle.std.specs.Prelude.{ℕ, ◌+◌, ◌-◌, Bool, false, cond, List, [], ◌∷◌, eqb, length, drop}
use Rattle.values.specs.Value.{is_type}
use Rattle.spelling.specs.Types.{kind_of}
use Rattle.spelling.specs.Read.{fault_number, read_value}
use Rattle.fields.specs.Fields.{fields, field_at}
use Rattle.misspellings.specs.declared.Misspelling.{Misspelling}

abbrev pub misspelled : ℕ → ℕ → Misspelling
misspelled n p = record { refusal = n; place = p }

abbrev pub rightly : Misspelling
rightly = misspelled 0 0

-- ---- a field

-- "9 type spelling or colon"; "A wrong type spelling [..] stands at its field's first byte"
unfoldable pub type_fault : List ℕ → Misspelling
type_fault s = cond (is_type (kind_of s)) rightly (misspelled 9 1)

abbrev pub value_fault : List ℕ → Misspelling
value_fault s = misspelled (fault_number (read_value s).fault) (read_value s).place

-- of a type where `cast`, else of a value; places are counted from 1 in the field
unfoldable pub field_fault : Bool → List ℕ → Misspelling
field_fault cast s = cond cast (type_fault s) (value_fault s)

-- ---- a line

-- a field's fault in a line where the field's first byte stands at `at`
abbrev pub in_line : ℕ → Misspelling → Misspelling
in_line at m = misspelled m.refusal (at + m.place - 1)

-- "the leftmost fault first": of fields of which the first starts at `at`, and is a type where `cast`, the first faulty one decides
unfoldable pub first_fault : Bool → ℕ → List (List ℕ) → Misspelling
first_fault cast at [] = rightly
first_fault cast at (f ∷ fs) = cond (eqb (field_fault cast f).refusal 0) (first_fault false (at + length f + 1) fs) (in_line at (field_fault cast f))

-- of the arguments of a line, the first of which is a type where `cast`
unfoldable pub line_fault : Bool → List ℕ → Misspelling
line_fault cast line = first_fault cast (length (field_at line 0) + 2) (drop 1 (fields line))
