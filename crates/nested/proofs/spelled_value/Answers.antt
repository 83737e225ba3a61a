-- Field by field; a fault stands within its spelling or just behind it. Assumes nothing.
use Prim.Native.Nat.{ℕ, ◌≤◌}
use mathlib.Core.Bool.{false}
use mathlib.Core.List.{List}
use native.Mathlib.Omega.{arith}
use Rattle.misspellings.specs.Misspellings.{value_fault, field_fault}
use Rattle.misspellings.proofs.Arguments.{fault_most}
use Rattle.nested.specs.Nested.{spelled_value}
use Rattle.nested.proofs.spelled_value.Goals as goal
use Rattle.nested.proofs.spelled_value.Goals.{After-rightly_spelled}

place_most : (w : List ℕ) → (value_fault w).place ≤ 156
unfolding field_fault
place_most w = fault_most false w

most : (c : After-rightly_spelled) → c.misspelled-m.result.place ≤ 156
most c = rw (c.misspelled-m.ensures, c.read_value-x.ensures) (place_most _)

pub in_line-requires : goal.in_line-requires
in_line-requires c = let p = most c in (omega arith, omega arith)

pub returns : goal.returns
unfolding spelled_value
returns c = rw (c.in_line.ensures, c.rightly_spelled.ensures, c.misspelled-m.ensures, c.fault_number.ensures, c.read_value-x.ensures)
