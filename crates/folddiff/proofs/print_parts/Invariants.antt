-- Less is left after each part. Assumes nothing.
use Rattle.std.proofs.Common.{◌-◌, length}
use Rattle.folddiff.proofs.print_parts.Given as goal

abbrev pub decreases-loop-done : goal.decreases-loop-done
decreases-loop-done g l = length l.kinds - l.done
