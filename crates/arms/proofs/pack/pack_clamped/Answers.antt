-- Each part of the outcome is what its function ensures. Assumes nothing.
use mathlib.Core.Path.{◌∙◌}
use Rattle.arms.proofs.pack.pack_clamped.Goals as goal

pub returns : goal.returns
returns c = c.given_one.ensures ∙ rw (c.clamped_word.ensures, c.one_value.ensures)
