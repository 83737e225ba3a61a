-- The invariant: what is left tells what all does. Assumes nothing.
use Rattle.std.proofs.Common.{◌≡◌, map, take, drop, length}
use Rattle.buffers.specs.Text.{same_bytes}
use Rattle.kinds.specs.Kinds.{normal_lane}
use Rattle.kinds.proofs.same_lanes.Given as goal

abbrev pub invariant-loop-x : goal.invariant-loop-x
invariant-loop-x l = (goal.iterator-loop-x).can_next l.x-iterator × (goal.iterator-loop-x).is_finite l.x-iterator
    × (same_bytes (map (normal_lane l.nans l.s) (take l.n l.fn.a)) (map (normal_lane l.nans l.s) (take l.n l.fn.b))
    ≡ same_bytes (map (normal_lane l.nans l.s) (drop (length l.yielded) (take l.n l.fn.a))) (map (normal_lane l.nans l.s) (drop (length l.yielded) (take l.n l.fn.b))))
