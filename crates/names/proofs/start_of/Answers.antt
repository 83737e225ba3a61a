-- The table is the definition's, computed. Assumes nothing.
use Rattle.names.specs.Program.{start}
use Rattle.names.proofs.start_of.Goals as goal

pub returns : goal.returns
unfolding start
returns c = c.from.ensures
