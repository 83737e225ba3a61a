-- A value's text, read into lent words: the faults of 02, Q-2, and 8 where there is no room for 17 words. Definitions only.
use Rattle.std.specs.Prelude.{ℕ, cond, List, [], ltb, eqb}
use Rattle.words.specs.Words.{words_of}
use Rattle.spelling.specs.Read.{fault_number, read_value}
use Rattle.reading.specs.declared.ReadInto.{ReadInto}

unfoldable pub refusal_in : ℕ → List ℕ → ℕ
refusal_in room s = cond (eqb (fault_number (read_value s).fault) 0) (cond (ltb room 17) 8 0) (fault_number (read_value s).fault)

unfoldable pub read_in : ℕ → List ℕ → ReadInto
read_in room s = record { refusal = refusal_in room s; place = (read_value s).place }

unfoldable pub words_in : ℕ → List ℕ → List ℕ
words_in room s = cond (eqb (refusal_in room s) 0) (words_of (read_value s).value) []
