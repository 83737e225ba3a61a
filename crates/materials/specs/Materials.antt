-- What a whole material gives, 02's Q-6: a lent slice of calls folded into a lent slice of results. Both forms, of records and of words, mean this. Definitions only.
use Rattle.std.specs.Prelude.{ℕ, Bool, cond, List, ◌++◌, map, ltb, length, drop}
use Rattle.readings.specs.declared.Reading.{Reading}
use Rattle.calls.specs.declared.Call.{Call}
use Rattle.builtins.specs.declared.Answer.{Answer}
use Rattle.builtins.specs.Fold.{fold_in}

-- "result k is what the single call would give for call k, a refusal included, and work goes on after it"
abbrev pub folded_all : Reading → List Call → List Answer
folded_all r = map (fold_in r)

-- "8 for the whole call when the result slice is the shorter": of what the calls take and of the room that is lent
abbrev pub is_short : ℕ → ℕ → Bool
is_short takes room = ltb room takes

abbrev pub refusal_all : ℕ → ℕ → ℕ
refusal_all takes room = cond (is_short takes room) 8 0

-- The results, where these were found: refused they stay, and "result records past the last call are untouched".
unfoldable pub results_of : Reading → List Call → List Answer → List Answer
results_of r calls found = cond (is_short (length calls) (length found)) found (folded_all r calls ++ drop (length calls) found)
