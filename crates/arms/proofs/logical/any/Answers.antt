-- Each part of the outcome is what its function ensures. Assumes nothing.
use mathlib.Core.Path.{◌∙◌}
use Rattle.arms.proofs.logical.any.Goals as goal

pub returns : goal.returns
returns c = c.given_one.ensures ∙ rw (c.flag_of.ensures, c.each_is.ensures, c.count_at.ensures.0, c.one_value-ok.ensures)
