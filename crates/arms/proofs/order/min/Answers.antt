-- Each part of the outcome is what its function ensures. Assumes nothing.
use mathlib.Core.Path.{◌∙◌}
use Rattle.arms.proofs.order.min.Goals as goal

pub returns : goal.returns
returns c = c.given.ensures ∙ rw (c.min.ensures, c.cut_at.ensures, c.scalar_at.ensures, c.two_alike-ok.ensures)
