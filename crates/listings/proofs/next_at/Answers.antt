-- Where a newline stands within what follows, the next place is within the listing, and so the sum fits. Assumes nothing.
use Rattle.listings.proofs.ListingLines.{next_cut, next_end}
use mathlib.Core.Path.{ap}
use native.Mathlib.Omega.{arith}
use lib.ListN.{length, length-drop}
use Rattle.listings.proofs.next_at.Goals as goal

pub overflow_add-result : goal.overflow_add-result
overflow_add-result c = omega (arith, ap length c.rest-t.ensures, length-drop c.args.at c.args.listing.now)

pub overflow_add-result-then-n-t : goal.overflow_add-result-then-n-t
overflow_add-result-then-n-t c = omega (arith, ap length c.rest-t.ensures, length-drop c.args.at c.args.listing.now)

pub returns-then-n-t : goal.returns-then-n-t
returns-then-n-t c = next_cut c.args.listing.now c.args.at c.rest-t.ensures c.find-n.ensures.0 c.if-n-t.true

pub returns-else-n-t : goal.returns-else-n-t
returns-else-n-t c = next_end c.args.listing.now c.args.at c.rest-t.ensures c.find-n.ensures.0 c.if-n-t.false
