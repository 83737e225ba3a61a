-- Texts as bytes, so that a definition can quote them, and what a text spells. Definitions only.
use Prim.Native.String.{String, [], ◌∷◌}
use Prim.Native.Char.{Char, code}
use Rattle.std.specs.Prelude.{ℕ, suc, Bool, true, false, cond, ◌&&◌, eqb}
use mathlib.Core.List as list

abbrev pub byte : Char → ℕ
byte c = code c

abbrev pub bytes : String → list.List ℕ
bytes [] = list.[]
bytes (c ∷ s) = list.◌∷◌ (code c) (bytes s)

unfoldable pub same_bytes : list.List ℕ → list.List ℕ → Bool
same_bytes list.[] list.[] = true
same_bytes list.[] (list.◌∷◌ y ys) = false
same_bytes (list.◌∷◌ x xs) list.[] = false
same_bytes (list.◌∷◌ x xs) (list.◌∷◌ y ys) = eqb x y && same_bytes xs ys

-- where the first b stands, or the length
unfoldable pub place_of : ℕ → list.List ℕ → ℕ
place_of b list.[] = 0
place_of b (list.◌∷◌ x xs) = cond (eqb x b) 0 (suc (place_of b xs))

-- the first of some things that is spelled s, and `none` where there is none
unfoldable pub first_spelled : {A : Type 0} → (A → list.List ℕ) → A → list.List A → list.List ℕ → A
first_spelled spelling none list.[] s = none
first_spelled spelling none (list.◌∷◌ a rest) s = cond (same_bytes (spelling a) s) a (first_spelled spelling none rest s)
