-- How the program finds the end of a value's text. Program-shaped: no statement of what is read rests on this. Definitions only.
use Rattle.std.specs.Prelude.{ℕ, Bool, cond, List, eqb, ltb, length, get_or}

-- whether a field ends at e: there, or at a tab
abbrev pub ends : List ℕ → ℕ → Bool
ends t e = cond (ltb e (length t)) (eqb (get_or t e 0) 9) (eqb e (length t))
