-- Each turn keeps what is known of the starts around those left, and leaves fewer. Assumes nothing.
use Rattle.tables.proofs.Halving.{Left}
use Rattle.tables.proofs.search.Given as goal

abbrev pub invariant-loop-n : goal.invariant-loop-n
invariant-loop-n l = Left l.starts l.v l.lo l.n

abbrev pub decreases-loop-n : goal.decreases-loop-n
decreases-loop-n l = l.n
