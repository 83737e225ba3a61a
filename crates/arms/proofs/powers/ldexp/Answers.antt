-- Each part of the outcome is what its function ensures. Assumes nothing.
use mathlib.Core.Path.{◌∙◌}
use Rattle.arms.proofs.powers.ldexp.Goals as goal

pub returns : goal.returns
returns c = c.given.ensures ∙ rw (c.ldexp.ensures, c.cut_at.ensures, c.scaling-ok.ensures)
