-- What writing into lent memory gives. Definitions only.
use Rattle.std.specs.Prelude.{ℕ, ◌+◌, Bool, List, ◌++◌, leb, length, take, drop}

-- o with xs from `at` on, and no other entry changed
unfoldable pub put : List ℕ → ℕ → List ℕ → List ℕ
put o at xs = take at o ++ xs ++ drop (at + length xs) o

-- there is room for xs from `at` on
abbrev pub fits : List ℕ → ℕ → List ℕ → Bool
fits o at xs = leb (at + length xs) (length o)
