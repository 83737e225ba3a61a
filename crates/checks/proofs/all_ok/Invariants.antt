-- The invariant: the check of all lanes comes to the check of the lanes from i on, with i fewer in use. Assumes nothing.
use Prim.Native.Nat.{◌-◌}
use mathlib.Core.Path.{◌≡◌}
use lib.ListN.{drop}
use Rattle.values.proofs.Checked.{checked}
use Rattle.checks.proofs.all_ok.Given as goal

abbrev pub invariant-loop-i : goal.invariant-loop-i
invariant-loop-i l = checked l.n l.bound l.l ≡ checked (l.n - l.i) l.bound (drop l.i l.l)
