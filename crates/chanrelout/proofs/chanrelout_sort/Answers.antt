-- No index has 2^32 lines. Assumes nothing.
use native.Mathlib.Omega.{arith}
use lib.ListN.{length}
use Rattle.sorting.proofs.Refusals.{count_few}
use Rattle.chanrelout.proofs.chanrelout_sort.Goals as goal

pub sort_number-requires : goal.sort_number-requires
sort_number-requires c = omega (arith, count_few (length c.args.index.now) c.args.listing.now c.sort_listing-s.ensures.0)
