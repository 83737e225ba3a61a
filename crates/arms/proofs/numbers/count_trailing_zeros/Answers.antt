-- Each part of the outcome is what its function ensures. Assumes nothing.
use mathlib.Core.Path.{◌∙◌}
use Rattle.arms.proofs.numbers.count_trailing_zeros.Goals as goal

pub returns : goal.returns
returns c = c.given.ensures ∙ rw (c.count_trailing_zeros.ensures, c.one_value.ensures)
