-- What holds of the refusals of lines: 02, Q-2, "in lines they replace 3". Statements only; proofs/ shows them.
use Rattle.std.specs.Prelude.{ℕ, ◌<◌, ◌≤◌, List, ◌≡◌}
use Rattle.readings.specs.declared.Reading.{Reading}
use Rattle.misspellings.specs.Laws.{AllRightly}
use Rattle.lines.specs.Line.{is_cast, refusal_of, fault_place}

-- no line gives 3, and one whose arguments are all rightly spelled none of 9 to 11; these, and no others, have a place
pub record Told (r : Reading) (line : List ℕ) : Type 0 where
  pub not_3 : refusal_of r line ≡ 3 → ⊥
  pub most : refusal_of r line ≤ 11
  pub rightly : AllRightly (is_cast line) line → refusal_of r line < 9
  pub placed : 9 ≤ refusal_of r line → 0 < fault_place r line
  pub unplaced : refusal_of r line < 9 → fault_place r line ≡ 0
