-- The lines of an input: 01, "A newline ends a line; bytes after the last newline are a line if there are any."
use Rattle.std.specs.Prelude.{cond, ℕ, List, [], ◌∷◌, eqb}
use Rattle.buffers.specs.Text.{place_of}

-- a byte goes before the first line, and is one by itself where there is none
unfoldable pub on_first : ℕ → List (List ℕ) → List (List ℕ)
on_first x [] = (x ∷ []) ∷ []
on_first x (l ∷ ls) = (x ∷ l) ∷ ls

unfoldable pub lines : List ℕ → List (List ℕ)
lines [] = []
lines (x ∷ xs) = cond (eqb x 10) ([] ∷ lines xs) (on_first x (lines xs))

-- where the first newline stands, or the length
abbrev pub newline_at : List ℕ → ℕ
newline_at s = place_of 10 s

-- what follows the first newline
unfoldable pub after_newline : List ℕ → List ℕ
after_newline [] = []
after_newline (x ∷ xs) = cond (eqb x 10) xs (after_newline xs)
