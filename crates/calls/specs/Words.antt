-- A call as words of 64 bits. Definitions only.
use Rattle.std.specs.Prelude.{ℕ, List, get_or}
use Rattle.values.specs.Value.{kind_at}
use Rattle.words.specs.Words.{value_at}
use Rattle.calls.specs.declared.Call.{Call}
use Rattle.calls.specs.Table.{builtin_at}

-- A call is a builtin by its number, a count, a type and three values; a word that is not there is 0, and words past the last value's are not looked at.
unfoldable pub call_of : List ℕ → Call
call_of w = record { builtin = builtin_at (get_or w 0 0); count = get_or w 1 0; target = kind_at (get_or w 2 0); a = value_at w 3; b = value_at w 20; c = value_at w 37 }
