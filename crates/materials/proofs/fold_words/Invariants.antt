-- The invariant: writing all answers comes to writing those from call k on into the memory as it is; a turn is `turn`. Assumes nothing.
use Prim.Native.Nat.{◌*◌}
use mathlib.Core.Path.{◌≡◌}
use lib.ListN.{length}
use Rattle.buffers.specs.Memory.{put}
use Rattle.materials.proofs.All.{rest}
use Rattle.materials.proofs.fold_words.Given as goal

abbrev pub invariant-loop-k : goal.invariant-loop-k
invariant-loop-k l = (length l.answers ≡ length l.initial.answers) × (put l.initial.answers 0 (rest l.reading l.calls l.n 0) ≡ put l.answers (36 * l.k) (rest l.reading l.calls l.n l.k))
