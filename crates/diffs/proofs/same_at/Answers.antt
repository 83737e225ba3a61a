-- The lines that are compared are those there. Assumes nothing.
use Rattle.diffs.specs.Places.{same_at}
use Rattle.diffs.proofs.same_at.Goals as goal

pub returns : goal.returns
unfolding same_at
returns c = rw (c.same-same.ensures, c.line_at-2.ensures, c.line_at.ensures)
