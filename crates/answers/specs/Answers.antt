-- An answer's text, and what becomes of it in lent memory of a size: 01, "Lines". Definitions only.
use Rattle.std.specs.Prelude.{ℕ, cond, List, [], ◌∷◌, ◌++◌, ltb, eqb, length}
use Rattle.values.specs.declared.Value.{Value}
use Rattle.values.specs.Value.{is_type}
use Rattle.builtins.specs.declared.Answer.{Answer}
use Rattle.spelling.specs.Write.{text_of}
use Rattle.fields.specs.Fields.{tab}
use Rattle.answers.specs.declared.LineAnswer.{LineAnswer}

-- "frexp answers two fields"
unfoldable pub second_text : Value → List ℕ
second_text v = cond (is_type v.kind) (tab ∷ text_of v) []

unfoldable pub values_text : Answer → List ℕ
values_text x = text_of x.first ++ second_text x.second

-- "8: the lent output is shorter than the answer line without newline"
unfoldable pub told_in : ℕ → Answer → ℕ
told_in room x = cond (eqb x.refusal 0) (cond (ltb room (length (values_text x))) 8 0) x.refusal

-- "Each refusal .. leaves the lent output as found; an answer changes no byte past its own, and writes no newline."
unfoldable pub spelled_in : ℕ → Answer → List ℕ
spelled_in room x = cond (eqb (told_in room x) 0) (values_text x) []

unfoldable pub answered_in : ℕ → Answer → LineAnswer
answered_in room x = record { refusal = told_in room x; len = length (spelled_in room x); place = 0 }
