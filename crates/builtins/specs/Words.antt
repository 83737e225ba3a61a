-- A call's answer in a reading, as words of 64 bits, for a program that links the library. Definitions only.
use Rattle.std.specs.Prelude.{ℕ, cond, List, [], ◌∷◌, ◌++◌, ltb, eqb}
use Rattle.readings.specs.declared.Reading.{Reading}
use Rattle.words.specs.Words.{words_of}
use Rattle.calls.specs.Words.{call_of}
use Rattle.builtins.specs.Fold.{fold_in}

-- An answer is its two values and its loss.
unfoldable pub answer_of : Reading → List ℕ → List ℕ
answer_of r w = words_of (fold_in r (call_of w)).first ++ words_of (fold_in r (call_of w)).second ++ (fold_in r (call_of w)).loss ∷ []

-- 8 where lent memory of that many words has no room for an answer
unfoldable pub refusal_in : Reading → ℕ → List ℕ → ℕ
refusal_in r room w = cond (eqb (fold_in r (call_of w)).refusal 0) (cond (ltb room 35) 8 0) (fold_in r (call_of w)).refusal

unfoldable pub written_in : Reading → ℕ → List ℕ → List ℕ
written_in r room w = cond (eqb (refusal_in r room w) 0) (answer_of r w) []
