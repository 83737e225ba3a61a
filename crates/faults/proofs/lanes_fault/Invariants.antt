-- The invariant: the fault of the whole is that of what is left from i on; each way out of a turn is one step of the definition. Assumes nothing.
use Prim.Native.Nat.{ℕ, ◌+◌, ◌-◌, ◌≤◌}
use mathlib.Core.Path.{◌≡◌}
use lib.ListN.{length, drop}
use Rattle.spelling.specs.Read.{lanes_at}
use Rattle.faults.specs.Program.{fault_of}
use Rattle.faults.proofs.lanes_fault.Given as goal

abbrev pub invariant-loop-i : goal.invariant-loop-i
invariant-loop-i l = (l.i ≤ length l.s) × ((v : ℕ) × (fault_of (lanes_at l.b l.w l.n l.w l.p 0 l.s) ≡ fault_of (lanes_at l.b l.w l.left l.due (l.p + l.i) v (drop l.i l.s))))

abbrev pub decreases-loop-i : goal.decreases-loop-i
decreases-loop-i l = length l.s - l.i
