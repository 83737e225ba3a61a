-- A value as words of 64 bits. Definitions only.
use Rattle.std.specs.Prelude.{ℕ, ◌+◌, cond, List, ◌∷◌, leb, length, take, drop, get_or}
use Rattle.values.specs.declared.Value.{Value}
use Rattle.values.specs.Value.{place, kind_at, empty_value}

-- A value is 17 words: its type's place and its 16 lanes. Where not all of them are there it is the empty value.
unfoldable pub value_at : List ℕ → ℕ → Value
value_at w at = cond (leb (at + 17) (length w)) (record { kind = kind_at (get_or w at 0); lanes = take 16 (drop (at + 1) w) }) empty_value

-- a value's words: its type's place and its lanes
abbrev pub words_of : Value → List ℕ
words_of v = place v.kind ∷ v.lanes
