-- What a caller relies on who looks one result up, cuts a material up, or turns its calls round. Definitions only.
use Rattle.std.specs.Prelude.{ℕ, ◌*◌, ◌≤◌, ◌<◌, true, List, ◌++◌, map, ◌≡◌, ltb, length, take, drop, get_or}
use Rattle.readings.specs.declared.Reading.{Reading}
use Rattle.values.specs.Value.{every}
use Rattle.calls.specs.declared.Call.{Call}
use Rattle.calls.specs.Words.{call_of}
use Rattle.builtins.specs.declared.Answer.{Answer}
use Rattle.builtins.specs.Fold.{fold_in}
use Rattle.materials.specs.Materials.{folded_all, results_of}
use Rattle.materials.specs.Words.{call_count, answer_words, answers_of}

-- the entries at these places, in this order
abbrev pub picked : {X : Type 0} → X → List ℕ → List X → List X
picked none places l = map (λ i. get_or l i none) places

module _ (r : Reading) where
  -- two slices folded one after the other are the slices joined, folded
  abbrev pub Joins : Type 0
  Joins = (a b : List Call) → folded_all r (a ++ b) ≡ folded_all r a ++ folded_all r b

  -- in lent memory: the first part is folded there, and then the second part into what follows its results
  abbrev pub JoinsInPlace : Type 0
  JoinsInPlace = (a b : List Call) (found : List Answer) → length (a ++ b) ≤ length found
      → results_of r (a ++ b) found ≡ take (length a) (results_of r a found) ++ results_of r b (drop (length a) (results_of r a found))

  -- the order of the calls does not matter to a result: calls picked from a slice give the results so picked
  abbrev pub AnyOrder : Type 0
  AnyOrder = (calls : List Call) (places : List ℕ) (c : Call) (a : Answer) → every (λ i. ltb i (length calls)) places ≡ true
      → folded_all r (picked c places calls) ≡ picked a places (folded_all r calls)

  -- answer k of words is that of the call in the words from 54 k on
  abbrev pub AnswerAt : Type 0
  AnswerAt = (w : List ℕ) (k : ℕ) → k < call_count (length w) → take 36 (drop (36 * k) (answers_of r w)) ≡ answer_words (fold_in r (call_of (take 54 (drop (54 * k) w))))

  -- words of whole calls, folded first
  abbrev pub WordsJoin : Type 0
  WordsJoin = (a b : List ℕ) (n : ℕ) → length a ≡ 54 * n → answers_of r (a ++ b) ≡ answers_of r a ++ answers_of r b
