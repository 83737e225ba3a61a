-- The invariant: the arguments of the whole are those counted and those of what is left. Assumes nothing.
use Prim.Native.Nat.{◌+◌, ◌-◌, ◌≤◌}
use mathlib.Core.Path.{◌≡◌}
use lib.ListN.{length, drop}
use Rattle.fields.specs.Fields.{argument_count}
use Rattle.fields.proofs.argument_count.Given as goal

abbrev pub invariant-loop-b : goal.invariant-loop-b
invariant-loop-b l = (l.n ≤ l.b-index) × (argument_count l.line ≡ l.n + argument_count (drop l.b-index l.line))
