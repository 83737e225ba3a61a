-- The invariant: the field that is sought is the one of what is left from `at` on that is as much further as fields are not passed. Assumes nothing.
use Prim.Native.Nat.{◌-◌, ◌≤◌}
use mathlib.Core.Path.{◌≡◌}
use lib.ListN.{length, drop}
use Rattle.fields.specs.Fields.{field_at}
use Rattle.fields.proofs.field.Given as goal

abbrev pub invariant-loop-passed : goal.invariant-loop-passed
invariant-loop-passed l = (l.at ≤ length l.line) × (field_at l.line l.k ≡ field_at (drop l.at l.line) (l.k - l.passed))
