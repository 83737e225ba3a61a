-- The invariant: what is written and what is still to be written are all kinds. Assumes nothing.
use Prim.Native.Nat.{◌-◌}
use mathlib.Core.Path.{◌≡◌}
use lib.ListN.{length}
use Rattle.buffers.specs.Memory.{put}
use Rattle.diffs.specs.Places.{kinds_from}
use Rattle.diffs.proofs.put_kinds.Given as goal

abbrev pub invariant-loop-k : goal.invariant-loop-k
invariant-loop-k l = (length l.kinds ≡ length l.initial.kinds) × (put l.kinds l.k (kinds_from (l.n - l.k) l.left l.i l.right l.j) ≡ put l.initial.kinds 0 (kinds_from l.n l.left 0 l.right 0))
