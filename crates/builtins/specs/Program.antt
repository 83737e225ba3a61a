-- How the program answers a call of words: the answer that an arm's outcome stands for, and what the caller is told. No statement of what a call gives rests on this. Definitions only.
use Rattle.std.specs.Prelude.{ℕ, cond, ◌≡◌, List, [], ◌∷◌, ◌++◌, ltb, length, take}
use Rattle.values.specs.declared.Value.{Value}
use Rattle.values.specs.Value.{lane_count, kind_at, value}
use Rattle.buffers.specs.Memory.{put}
use Rattle.words.specs.Words.{words_of}
use Rattle.arms.specs.declared.Outcome.{Outcome}
use Rattle.builtins.specs.declared.Answer.{Answer}

-- the value of the type at p whose lanes are the first of these
abbrev pub value_by : ℕ → List ℕ → Value
value_by p x = value (kind_at p) (take (lane_count (kind_at p)) x)

-- the answer that it stands for
abbrev pub answer_in : Outcome → Answer
answer_in o = record { refusal = 0; first = value_by o.first o.lanes; second = value_by o.second o.exponents; loss = o.loss }

-- of an answer and memory that is lent for it, what the caller is told and the memory after: the answer is written where there is room
pub record Told (a : Answer) (before : List ℕ) (r : ℕ) (after : List ℕ) : Type 0 where
  pub told : r ≡ cond (ltb (length before) 35) 8 0
  pub memory : after ≡ put before 0 (cond (ltb (length before) 35) [] (words_of a.first ++ words_of a.second ++ a.loss ∷ []))
