-- Each part of the outcome is what its function ensures. Assumes nothing.
use mathlib.Core.Path.{◌∙◌}
use Rattle.arms.proofs.order.saturate.Goals as goal

pub returns : goal.returns
returns c = c.given.ensures ∙ rw (c.saturate.ensures, c.one_value.ensures)
