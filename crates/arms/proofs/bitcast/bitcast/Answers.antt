-- Each part of the outcome is what its function ensures; the type at the place of a type is that type. Assumes nothing.
use mathlib.Core.Path.{◌∙◌}
use Rattle.values.proofs.Places.{there}
use Rattle.arms.proofs.bitcast.bitcast.Goals as goal

pub returns : goal.returns
returns c = c.given.ensures ∙ rw (c.recast.ensures, c.casting.ensures, c.is_half-to.ensures, c.scalar_at-2.ensures, c.is_half-from.ensures, c.scalar_at.ensures, c.known-t.ensures.0, there)
