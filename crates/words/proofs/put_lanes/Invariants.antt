-- The type's place is the first word; from there the invariant is that writing all lanes comes to writing those from i on. Assumes nothing.
use Prim.Native.Nat.{◌+◌}
use mathlib.Core.Path.{◌≡◌}
use lib.ListN.{drop}
use Rattle.buffers.specs.Memory.{put}
use Rattle.words.proofs.Kept.{first_of}
use Rattle.words.proofs.put_lanes.Given as goal

abbrev pub invariant-loop-i : goal.invariant-loop-i
invariant-loop-i l = put l.initial.out (l.at + 1) (first_of l.p l.x).lanes ≡ put l.out (l.at + 1 + l.i) (drop l.i (first_of l.p l.x).lanes)
