use Prim.Native.Nat.{◌+◌, ◌*◌, ◌≤◌}
use mathlib.Core.Path.{◌≡◌}
use lib.ListN.{length, drop}
use Rattle.buffers.specs.Memory.{put}
use Rattle.stream.specs.Stream.{line_room, part_text, part_of, lines_in}
use Rattle.stream.proofs.Parts.{from}
use Rattle.stream.proofs.fold_part.Given as goal

abbrev pub invariant-loop-left : goal.invariant-loop-left
invariant-loop-left l = (l.at ≤ length l.s) × (l.used + l.left * line_room ≤ length l.initial.out) × (length l.out ≡ length l.initial.out)
    × (put l.initial.out 0 (part_text l.reading (lines_in l.initial.out) l.skip l.last l.s) ≡ put l.out l.used (part_text l.reading l.left l.amid l.last (drop l.at l.s)))
    × (part_of l.reading (lines_in l.initial.out) l.skip l.last l.s ≡ from l.reading l.at l.used l.left l.amid l.last (drop l.at l.s))

abbrev pub decreases-loop-left : goal.decreases-loop-left
decreases-loop-left l = l.left
