-- Each part of the outcome is what its function ensures. Assumes nothing.
use mathlib.Core.Path.{◌∙◌}
use Rattle.arms.proofs.vectors.dot.Goals as goal

pub returns : goal.returns
returns c = c.given_one.ensures ∙ rw (c.dot.ensures, c.cut_at.ensures, c.count_at.ensures.0, c.place_of-t.ensures, c.two_alike-ok.ensures, c.scalar_at-s.ensures)
