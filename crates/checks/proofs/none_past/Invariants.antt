-- The invariant: whether what was looked at is 0. Assumes nothing.
use mathlib.Core.Path.{◌≡◌}
use lib.Dec.{eqb}
use lib.ListN.{take}
use Rattle.values.specs.Value.{every}
use Rattle.checks.proofs.none_past.Given as goal

abbrev pub invariant-loop-x : goal.invariant-loop-x
invariant-loop-x l = l.none ≡ every (λ x. eqb x 0) (take l.x-index l.x-items)
