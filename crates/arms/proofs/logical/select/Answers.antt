-- Each part of the outcome is what its function ensures. Assumes nothing.
use mathlib.Core.Path.{◌∙◌}
use Rattle.arms.proofs.logical.select.Goals as goal

pub returns : goal.returns
returns c = c.given.ensures ∙ rw (c.select_four.ensures, c.condition.ensures, c.cut_at.ensures, c.selecting-ok.ensures)
