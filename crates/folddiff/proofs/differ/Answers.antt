-- No listing has more lines than bytes, so that all kinds have room. Assumes nothing.
use native.Mathlib.Omega.{arith}
use Rattle.diffs.proofs.AllParts.{count_few}
use Rattle.folddiff.proofs.differ.Goals as goal

pub slice_bounds-print_parts-end : goal.slice_bounds-print_parts-end
slice_bounds-print_parts-end g c = omega (arith, count_few 32768 c.args.left.now c.args.right.now c.compare_listings-c.ensures.0)
