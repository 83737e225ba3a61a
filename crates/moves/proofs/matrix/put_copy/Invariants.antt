-- The invariant: writing the whole comes to writing what is left of it, from where the turn stands. Assumes nothing.
use mathlib.Core.Path.{◌≡◌}
use lib.ListN.{drop}
use Rattle.buffers.specs.Memory.{put}
use Rattle.moves.proofs.matrix.put_copy.Given as goal

abbrev pub invariant-loop-i : goal.invariant-loop-i
invariant-loop-i l = put l.initial.out 0 l.s ≡ put l.out l.i (drop l.i l.s)
