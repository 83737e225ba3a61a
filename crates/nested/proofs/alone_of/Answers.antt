-- Field by field. Assumes nothing.
use Rattle.nested.specs.Nested.{alone}
use Rattle.nested.proofs.alone_of.Goals as goal

pub returns : goal.returns
unfolding alone
returns c = rw (c.empty-2.ensures, c.empty.ensures, c.first_of.ensures, c.rightly_spelled.ensures)
