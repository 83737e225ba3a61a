-- Each part of the outcome is what its function ensures. Assumes nothing.
use mathlib.Core.Path.{◌∙◌}
use Rattle.arms.proofs.order.clamp.Goals as goal

pub returns : goal.returns
returns c = c.given.ensures ∙ rw (c.clamp-e.ensures, c.cut_at-2.ensures, c.cut_at.ensures, c.scalar_at.ensures, c.three_alike-ok.ensures)
