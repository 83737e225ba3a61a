-- The results after k turns: those of the first k calls, and the others as they were found.
use Rattle.std.proofs.Common.{◌≡◌, ◌≤◌, length}
use Rattle.builtins.specs.Fold.{fold_in}
use Rattle.batches.proofs.Lists.{done}
use Rattle.batches.proofs.fold_all_in.Given as goal

abbrev pub invariant-loop-k : goal.invariant-loop-k
invariant-loop-k l = (l.k ≤ length l.calls) × (length l.calls ≤ length l.initial.results) × (l.results ≡ done (fold_in l.reading) l.calls l.initial.results l.k)
