-- The turned type's place is the first word; from there the invariant is that writing all lanes comes to writing those from j on. Assumes nothing.
use Prim.Native.Nat.{◌+◌}
use mathlib.Core.Path.{◌≡◌}
use lib.ListN.{length, drop}
use Rattle.buffers.specs.Memory.{put}
use Rattle.words.specs.Words.{value_at}
use Rattle.moves.specs.Moves.{transpose_of}
use Rattle.moves.proofs.matrix.put_transposed.Given as goal

abbrev pub invariant-loop-j : goal.invariant-loop-j
invariant-loop-j l = (length l.out ≡ length l.initial.out) × (put l.initial.out 1 (transpose_of (value_at l.w 3)).lanes ≡ put l.out (1 + l.j) (drop l.j (transpose_of (value_at l.w 3)).lanes))
