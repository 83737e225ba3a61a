-- The first line of the bytes at hand, and what a buffer holds. Definitions only.
use Rattle.std.specs.Prelude.{ℕ, suc, List, Bool, not, ◌&&◌, ◌||◌, cond, length, take, drop, ltb}
use Rattle.cutting.specs.Lines.{newline_at}
use Rattle.cutting.specs.declared.FirstLine.{FirstLine}

abbrev pub most_bytes : ℕ
most_bytes = 400

-- whether s has the newline that ends its first line
abbrev pub ended : List ℕ → Bool
ended s = ltb (newline_at s) (length s)

abbrev pub over : List ℕ → Bool
over s = ltb most_bytes (length s)

-- whether the first line of s is answered now: it is ended, or too long already, or no byte comes after s
unfoldable pub due : Bool → Bool → List ℕ → Bool
due skip last s = not skip && (ended s || over s || (last && ltb 0 (length s)))

-- how many bytes are done with, and whether what comes next belongs to a line answered already
unfoldable pub piece_size : Bool → Bool → List ℕ → ℕ
piece_size skip last s = cond (ended s) (suc (newline_at s)) (cond (skip || over s || last) (length s) 0)

unfoldable pub piece_skip : Bool → List ℕ → Bool
piece_skip skip s = not (ended s) && (skip || over s)

-- all that is told of the first line of s: where it ends, whether it is due, what is done with and what comes next
unfoldable pub first_line : Bool → Bool → List ℕ → FirstLine
first_line skip last s = record { end = newline_at s; due = due skip last s; size = piece_size skip last s; skip = piece_skip skip s }

-- what a buffer holds from `at` up to `have`
unfoldable pub held_of : List ℕ → ℕ → ℕ → List ℕ
held_of b at have = drop at (take have b)
