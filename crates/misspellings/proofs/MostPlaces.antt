-- No fault's place is far past the end of its line: fields and the tabs between them are as long as the line, and a fault stands within its field or just behind it. By induction on the line and on its fields. Assumes nothing.
use Prim.Native.Nat.{ℕ, ◌+◌, ◌≤◌}
use mathlib.Core.Bool.{Bool, true, false, cond}
use mathlib.Core.List.{List, [], ◌∷◌}
use mathlib.Core.Path.{◌≡◌, refl}
use native.Mathlib.Omega.{arith}
use lib.Dec.{eqb}
use lib.ListN.{length, drop, get_or}
use Rattle.fields.specs.Fields.{tab, on_first, fields, field_at}
use Rattle.misspellings.specs.Misspellings.{field_fault, in_line, first_fault, line_fault}
use Rattle.misspellings.proofs.Arguments.{fault_most}

-- as many bytes as the fields have, with one behind each
unfoldable spread : List (List ℕ) → ℕ
spread [] = 0
spread (f ∷ fs) = length f + 1 + spread fs

on_first_lem : (x n : ℕ) (fs : List (List ℕ)) → spread fs ≡ n + 1 → spread (on_first x fs) ≡ n + 2
unfolding spread on_first
on_first_lem x n [] e = absurd (omega arith)
on_first_lem x n (f ∷ fs) e = omega arith

spread_fields : (line : List ℕ) → spread (fields line) ≡ length line + 1
unfolding spread fields
spread_fields [] = refl
spread_fields (x ∷ xs) = by (eqb x tab) (spread_fields xs)
  where
    by : (t : Bool) → spread (fields xs) ≡ length xs + 1 → spread (cond t ([] ∷ fields xs) (on_first x (fields xs))) ≡ length (x ∷ xs) + 1
    by true e = omega arith
    by false e = omega (arith, on_first_lem x (length xs) (fields xs) e)

first_most : (cast : Bool) (at : ℕ) (fs : List (List ℕ)) → (first_fault cast at fs).place ≤ at + spread fs + 156
unfolding spread first_fault
first_most cast at [] = omega arith
first_most cast at (f ∷ fs) = by (eqb (field_fault cast f).refusal 0) (first_most false (at + length f + 1) fs)
  where
    by : (t : Bool) → (first_fault false (at + length f + 1) fs).place ≤ at + length f + 1 + spread fs + 156
        → (cond t (first_fault false (at + length f + 1) fs) (in_line at (field_fault cast f))).place ≤ at + (length f + 1 + spread fs) + 156
    by true h = omega arith
    by false h = omega (arith, fault_most cast f)

-- the fields behind the name, and the name
behind_name : (n : ℕ) (fs : List (List ℕ)) → spread fs ≡ n + 1 → length (get_or fs 0 []) + 2 + spread (drop 1 fs) ≤ n + 2
unfolding spread
behind_name n [] e = absurd (omega arith)
behind_name n (f ∷ fs) e = omega arith

pub fault_within : (cast : Bool) (line : List ℕ) → (line_fault cast line).place ≤ length line + 158
unfolding line_fault field_at
fault_within cast line =
    omega (arith, first_most cast (length (field_at line 0) + 2) (drop 1 (fields line)), behind_name (length line) (fields line) (spread_fields line))
