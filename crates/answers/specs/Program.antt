-- How the program holds an answer: the refusal, and the words of the two values; and how long the text of a second value is. No statement of what a line gives rests on this. Definitions only.
use Rattle.std.specs.Prelude.{ℕ, ◌+◌, cond, List, ◌≡◌}
use Rattle.values.specs.declared.Kind.{Kind}
use Rattle.values.specs.Value.{is_type}
use Rattle.words.specs.Words.{value_at}
use Rattle.builtins.specs.declared.Answer.{Answer}
use Rattle.spelling.specs.Write.{text_length}

-- the refusal is the answer's, and where there is none the words are its values'
abbrev pub Answers : ℕ → List ℕ → Answer → Type 0
Answers refusal a x = (refusal ≡ x.refusal) × (refusal ≡ 0 → (value_at a 0 ≡ x.first) × (value_at a 17 ≡ x.second))

-- of a value of the type, with the tab before it
unfoldable pub second_length : Kind → ℕ
second_length k = cond (is_type k) (text_length k + 1) 0
