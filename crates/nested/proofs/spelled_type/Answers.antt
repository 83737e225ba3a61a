-- Field by field; a fault stands within its spelling or just behind it. Assumes nothing.
use Prim.Native.Nat.{ℕ, ◌≤◌}
use mathlib.Core.Bool.{true}
use mathlib.Core.List.{List}
use native.Mathlib.Omega.{arith}
use Rattle.values.proofs.Places.{there}
use Rattle.misspellings.specs.Misspellings.{type_fault, field_fault}
use Rattle.misspellings.proofs.Arguments.{fault_most}
use Rattle.nested.specs.Nested.{spelled_type}
use Rattle.nested.proofs.spelled_type.Goals as goal
use Rattle.nested.proofs.spelled_type.Goals.{After-type_fault}

place_most : (w : List ℕ) → (type_fault w).place ≤ 156
unfolding field_fault
place_most w = fault_most true w

most : (c : After-type_fault) → c.type_fault.result.place ≤ 156
most c = rw c.type_fault.ensures (place_most _)

pub in_line-requires : goal.in_line-requires
in_line-requires c = let p = most c in (omega arith, omega arith)

pub returns : goal.returns
unfolding spelled_type
returns c = rw (c.empty.ensures, c.kind_at.ensures, c.type_of.ensures.0, there, c.in_line.ensures, c.type_fault.ensures, c.rightly_spelled.ensures)
