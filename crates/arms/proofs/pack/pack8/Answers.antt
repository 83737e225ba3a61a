-- Each part of the outcome is what its function ensures. Assumes nothing.
use mathlib.Core.Path.{◌∙◌}
use Rattle.arms.proofs.pack.pack8.Goals as goal

pub returns : goal.returns
returns c = c.given_one.ensures ∙ rw (c.word8.ensures, c.one_value.ensures)
