-- Each part of the outcome is what its function ensures. Assumes nothing.
use mathlib.Core.Path.{◌∙◌}
use Rattle.arms.proofs.powers.frexp.Goals as goal

pub returns : goal.returns
returns c = c.given_two.ensures ∙ rw (c.exponent.ensures, c.integers_at-q.ensures.0, c.fraction-fractions.ensures, c.one_value-ok.ensures, c.scalar_at-s.ensures)
