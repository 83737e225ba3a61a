-- How the program finds the one builtin that a name may name: a name's length and three of its bytes give its slot, and no two names share one. No statement of what is read rests on this. Definitions only.
use Rattle.std.specs.Prelude.{ℕ, suc, ◌+◌, ◌*◌, ◌-◌, ◌%◌, cond, List, [], ◌∷◌, ◌++◌, ltb, length, get_or, set, replicate}
use Rattle.calls.specs.declared.Builtin.{Builtin}
use Rattle.calls.specs.declared.Builtin.TheVariants.{Unknown}
use Rattle.calls.specs.Table.{builtins}
use Rattle.names.specs.Names.{name_of}

-- the builtins by number: Unknown, whose name is empty, and those of 01's table
abbrev pub candidates : List Builtin
candidates = Unknown ∷ builtins

-- ---- their names, one after another

abbrev pub names_of : List Builtin → List ℕ
names_of [] = []
names_of (b ∷ bs) = name_of b ++ names_of bs

-- where each name starts, the first at n, and where the last ends
abbrev pub starts_from : ℕ → List Builtin → List ℕ
starts_from n [] = n ∷ []
starts_from n (b ∷ bs) = n ∷ starts_from (n + length (name_of b)) bs

unfoldable pub start : ℕ → ℕ
start i = get_or (starts_from 0 candidates) i 0

-- ---- a name's slot, and the number of the builtin whose name has a slot

-- the byte k places from the end, or the first
abbrev pub byte_back : ℕ → List ℕ → ℕ
byte_back k s = get_or s (length s - k) 0

-- every name has 3 bytes or more, and none has slot 127
unfoldable pub slot : List ℕ → ℕ
slot s = cond (ltb (length s) 3) 127 ((2 * (length s % 64) + byte_back 2 s + 9 * byte_back 5 s + 3 * byte_back 7 s) % 128)

-- at each slot the number of the builtin whose name has it, and 0 where none has; n is the number of the first of these builtins
unfoldable pub places : ℕ → List Builtin → List ℕ
places n [] = replicate 128 0
places n (b ∷ bs) = set (places (suc n) bs) (slot (name_of b)) n

unfoldable pub place : ℕ → ℕ
place h = get_or (places 1 builtins) h 0
