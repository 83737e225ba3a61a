-- A line's fields: 01, "Fields are parted by one tab". Definitions only.
use Rattle.std.specs.Prelude.{ℕ, ◌+◌, cond, List, [], ◌∷◌, eqb, get_or}

abbrev pub tab : ℕ
tab = 9

-- a byte goes before the first field
unfoldable pub on_first : ℕ → List (List ℕ) → List (List ℕ)
on_first x [] = (x ∷ []) ∷ []
on_first x (f ∷ fs) = (x ∷ f) ∷ fs

unfoldable pub fields : List ℕ → List (List ℕ)
fields [] = [] ∷ []
fields (x ∷ xs) = cond (eqb x tab) ([] ∷ fields xs) (on_first x (fields xs))

-- "A field is handed back as the part of the line between its tabs, a missing one as the empty part."
unfoldable pub field_at : List ℕ → ℕ → List ℕ
field_at s k = get_or (fields s) k []

-- "builtin, then arguments": as many arguments as tabs
unfoldable pub argument_count : List ℕ → ℕ
argument_count [] = 0
argument_count (x ∷ xs) = cond (eqb x tab) 1 0 + argument_count xs
