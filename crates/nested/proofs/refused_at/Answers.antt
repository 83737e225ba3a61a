-- Field by field. Assumes nothing.
use Rattle.builtins.specs.Fold.{refused}
use Rattle.nested.specs.Nested.{refused_at}
use Rattle.nested.proofs.refused_at.Goals as goal

pub returns : goal.returns
unfolding refused_at refused
returns c = rw (c.empty.ensures, c.empty-2.ensures)
