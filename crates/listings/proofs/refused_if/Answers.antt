-- The record is one definition or the other. Assumes nothing.
use Rattle.listings.proofs.Made.{made}
use Rattle.listings.proofs.refused_if.Goals as goal

pub returns : goal.returns
returns c = made c.args.good c.empty.ensures c.empty-2.ensures
