-- A value's text, written into lent memory: 3 where the value is not well formed, 8 where there is no room. Definitions only.
use Rattle.std.specs.Prelude.{ℕ, cond, List, [], ltb, eqb, length}
use Rattle.values.specs.declared.Value.{Value}
use Rattle.values.specs.Value.{well_formed}
use Rattle.spelling.specs.Write.{text_of}
use Rattle.writing.specs.declared.Written.{Written}

unfoldable pub refusal_in : ℕ → Value → ℕ
refusal_in room v = cond (well_formed v) (cond (ltb room (length (text_of v))) 8 0) 3

unfoldable pub text_in : ℕ → Value → List ℕ
text_in room v = cond (eqb (refusal_in room v) 0) (text_of v) []

unfoldable pub written_as : ℕ → Value → Written
written_as room v = record { refusal = refusal_in room v; len = length (text_in room v) }
