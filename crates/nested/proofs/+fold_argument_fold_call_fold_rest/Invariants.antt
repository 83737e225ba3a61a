-- The bytes left fall, as in the reader's cycle: each call starts further on in the line. Assumes nothing.
use Rattle.std.proofs.Common.{◌+◌, ◌*◌, ◌-◌, length}
use Rattle.nested.proofs.+fold_argument_fold_call_fold_rest.Given as goal

abbrev pub decreases-fold_argument : goal.decreases-fold_argument
decreases-fold_argument l = 2 * (length l.s.now - l.at) + 1

abbrev pub decreases-fold_call : goal.decreases-fold_call
decreases-fold_call l = 2 * (length l.s.now - l.at)

abbrev pub decreases-fold_rest : goal.decreases-fold_rest
decreases-fold_rest l = 2 * (length l.s.now - l.x.end) + 1
