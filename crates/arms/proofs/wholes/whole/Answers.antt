-- Each part of the outcome is what its function ensures. Assumes nothing.
use mathlib.Core.Path.{◌∙◌}
use Rattle.arms.proofs.wholes.whole.Goals as goal

pub returns : goal.returns
returns c = c.given.ensures ∙ rw (c.whole.ensures, c.scalar_at.ensures, c.one_value.ensures)
