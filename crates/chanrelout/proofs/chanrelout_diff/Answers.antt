-- No listing has 2^32 lines. Assumes nothing.
use native.Mathlib.Omega.{arith}
use lib.ListN.{length}
use Rattle.diffs.proofs.AllParts.{count_few}
use Rattle.chanrelout.proofs.chanrelout_diff.Goals as goal

pub diff_number-requires : goal.diff_number-requires
diff_number-requires c = omega (arith, count_few (length c.args.kinds.now) _ _ c.compare_listings-c.ensures.0)
