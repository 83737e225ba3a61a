-- A whole material as words of 64 bits: calls of 54 words one after another, answers of 36. Definitions only.
use Rattle.std.specs.Prelude.{ℕ, zero, suc, ◌+◌, ◌*◌, ◌/◌, cond, List, [], ◌∷◌, ◌++◌, length, take, drop}
use Rattle.readings.specs.declared.Reading.{Reading}
use Rattle.calls.specs.declared.Call.{Call}
use Rattle.builtins.specs.declared.Answer.{Answer}
use Rattle.words.specs.Words.{words_of}
use Rattle.calls.specs.Words.{call_of}
use Rattle.materials.specs.Materials.{folded_all, is_short, refusal_all}

-- The calls in that many words: a last part of fewer than 54 words is a call too, read as the single call reads a short slice.
abbrev pub call_count : ℕ → ℕ
call_count words = (words + 53) / 54

-- the first n calls
unfoldable pub first_calls : ℕ → List ℕ → List Call
first_calls zero w = []
first_calls (suc n) w = call_of (take 54 w) ∷ first_calls n (drop 54 w)

abbrev pub calls_of : List ℕ → List Call
calls_of w = first_calls (call_count (length w)) w

-- An answer is its two values, its loss and its refusal's number; a refused one has empty values and no loss.
unfoldable pub answer_words : Answer → List ℕ
answer_words a = words_of a.first ++ words_of a.second ++ a.loss ∷ a.refusal ∷ []

unfoldable pub joined : List Answer → List ℕ
joined [] = []
joined (a ∷ rest) = answer_words a ++ joined rest

-- the words that the answers take
abbrev pub answer_space : List ℕ → ℕ
answer_space w = 36 * call_count (length w)

abbrev pub answers_of : Reading → List ℕ → List ℕ
answers_of r w = joined (folded_all r (calls_of w))

-- what is told and what is written where that many words are lent
abbrev pub refusal_of_all : ℕ → List ℕ → ℕ
refusal_of_all room w = refusal_all (answer_space w) room

unfoldable pub written_of_all : Reading → ℕ → List ℕ → List ℕ
written_of_all r room w = cond (is_short (answer_space w) room) [] (answers_of r w)
