-- Each part of the outcome is what its function ensures. Assumes nothing.
use mathlib.Core.Path.{◌∙◌}
use Rattle.arms.proofs.pack.unpack16.Goals as goal

pub returns : goal.returns
returns c = c.given.ensures ∙ rw (c.lanes16.ensures, c.one_value.ensures)
