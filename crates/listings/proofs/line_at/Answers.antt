-- What stands from the place on is cut at its first newline. Assumes nothing.
use Rattle.listings.proofs.ListingLines.{line_cut}
use Rattle.listings.proofs.line_at.Goals as goal

pub returns : goal.returns
returns c = line_cut c.args.listing.now c.args.at c.rest-t.ensures c.find-n.ensures.0
