-- The invariant: writing all lanes comes to writing those from k on, from where the turn stands. Assumes nothing.
use Prim.Native.Nat.{◌+◌, ◌-◌, ◌≤◌}
use mathlib.Core.Path.{◌≡◌}
use lib.ListN.{length, take, drop}
use Rattle.buffers.specs.Memory.{put}
use Rattle.spelling.specs.Write.{lanes_text}
use Rattle.lanetexts.proofs.put_lanes.Given as goal

abbrev pub invariant-loop-k : goal.invariant-loop-k
invariant-loop-k l = (l.k ≤ l.n) × (length l.out ≡ length l.initial.out)
    × (l.at + length (lanes_text 58 l.w (take l.n l.lanes)) ≡ l.next + length (lanes_text l.before l.w (drop l.k (take l.n l.lanes))))
    × (put l.initial.out l.at (lanes_text 58 l.w (take l.n l.lanes)) ≡ put l.out l.next (lanes_text l.before l.w (drop l.k (take l.n l.lanes))))
