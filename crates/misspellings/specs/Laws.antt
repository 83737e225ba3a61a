-- What holds of the fault that is told of a line: it is the leftmost, by field and within its field. 02, Q-2. Statements only; proofs/ shows them.
use Rattle.std.specs.Prelude.{ℕ, zero, suc, ◌+◌, ◌-◌, ◌<◌, ◌≤◌, Bool, false, List, [], ◌∷◌, ◌⊎◌, ◌≡◌, length, take}
use Rattle.spelling.specs.declared.Fault.TheVariants.{Nothing}
use Rattle.spelling.specs.Read.{colon_at, read_value}
use Rattle.fields.specs.Fields.{fields, field_at}
use Rattle.misspellings.specs.declared.Misspelling.{Misspelling}
use Rattle.misspellings.specs.Misspellings.{field_fault, line_fault}

-- only the first argument, k = 0, can be a type
abbrev pub cast_at : Bool → ℕ → Bool
cast_at cast zero = cast
cast_at cast (suc k) = false

-- an argument is rightly spelled
abbrev pub Rightly : Bool → List ℕ → ℕ → Type 0
Rightly cast line k = (field_fault (cast_at cast k) (field_at line (suc k))).refusal ≡ 0

-- and so are all that a line has
abbrev pub AllRightly : Bool → List ℕ → Type 0
AllRightly cast line = (k : ℕ) → suc k < length (fields line) → Rightly cast line k

-- "Refusals: 9 type spelling or colon, 10 lane count, 11 digit", each with its place
pub record Numbered (m : Misspelling) : Type 0 where
  pub least : 9 ≤ m.refusal
  pub most : m.refusal ≤ 11
  pub placed : 0 < m.place

-- where field k of some starts, the first of them at `at`
unfoldable pub start_in : ℕ → List (List ℕ) → ℕ → ℕ
start_in at fs zero = at
start_in at [] (suc k) = at
start_in at (f ∷ fs) (suc k) = start_in (at + length f + 1) fs k

-- and of a line, "the byte counted from 1 in the line"
abbrev pub start_of : List ℕ → ℕ → ℕ
start_of line k = start_in 1 (fields line) k

-- "the leftmost fault first": the arguments before the k-th are rightly spelled, and the fault is the k-th's, where that stands
pub record Leftmost (cast : Bool) (line : List ℕ) : Type 0 where
  pub k : ℕ
  pub there : suc k < length (fields line)
  pub before : (j : ℕ) → j < k → Rightly cast line j
  pub what : (line_fault cast line).refusal ≡ (field_fault (cast_at cast k) (field_at line (suc k))).refusal
  pub place : (line_fault cast line).place ≡ start_of line (suc k) + (field_fault (cast_at cast k) (field_at line (suc k))).place - 1

-- within a value: of what stands before its fault and reaches past its colon, nothing is wrong but that it ends there
abbrev pub LeftmostIn : List ℕ → Type 0
LeftmostIn s = (m : ℕ) → colon_at s < m → m < (read_value s).place → ((read_value (take m s)).fault ≡ Nothing) ⊎ ((read_value (take m s)).place ≡ m + 1)
