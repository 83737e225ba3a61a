-- What is printed for a line, and for all of the input, in a reading: 01, "Lines". Definitions only.
use Rattle.std.specs.Prelude.{ℕ, Bool, cond, List, [], ◌∷◌, ◌++◌, eqb}
use Rattle.readings.specs.declared.Reading.{Reading}
use Rattle.printing.specs.Decimal.{refused_at}
use Rattle.lines.specs.Line.{refusal_of, fault_place, answer_of}
use Rattle.cutting.specs.Lines.{lines, after_newline}

unfoldable pub answer_text : Reading → List ℕ → List ℕ
answer_text r l = cond (eqb (refusal_of r l) 0) (answer_of r l) (refused_at (refusal_of r l) (fault_place r l))

-- "prints one line for each"
unfoldable pub answer_line : Reading → List ℕ → List ℕ
answer_line r l = answer_text r l ++ (10 ∷ [])

unfoldable pub answer_lines : Reading → List (List ℕ) → List ℕ
answer_lines r [] = []
answer_lines r (l ∷ ls) = answer_line r l ++ answer_lines r ls

-- what is printed for all of the input
unfoldable pub printed : Reading → List ℕ → List ℕ
printed r s = answer_lines r (lines s)

-- the same where the input starts amid a line that is answered already
unfoldable pub printed_from : Reading → Bool → List ℕ → List ℕ
printed_from r skip s = cond skip (printed r (after_newline s)) (printed r s)
