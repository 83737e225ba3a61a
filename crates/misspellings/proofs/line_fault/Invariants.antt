-- The invariant: what is wrong with the line is what is wrong with the arguments behind the tab that is reached. Assumes nothing.
use Prim.Native.Nat.{◌-◌, ◌≤◌}
use mathlib.Core.Path.{◌≡◌}
use lib.ListN.{length}
use Rattle.misspellings.specs.Misspellings.{line_fault}
use Rattle.misspellings.proofs.Arguments.{rest_fault}
use Rattle.misspellings.proofs.line_fault.Given as goal

abbrev pub invariant-loop-tab : goal.invariant-loop-tab
invariant-loop-tab l = (l.tab ≤ length l.line) × (line_fault l.cast l.line ≡ rest_fault l.typed l.tab l.line)

abbrev pub decreases-loop-tab : goal.decreases-loop-tab
decreases-loop-tab l = length l.line - l.tab
