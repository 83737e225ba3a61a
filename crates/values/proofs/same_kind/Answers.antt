-- What == answers of two types. Assumes nothing.
use mathlib.Core.Path.{◌∙◌}
use Rattle.values.proofs.Places.{equals}
use Rattle.values.proofs.same_kind.Goals as goal

pub returns : goal.returns
returns c = c.eq.ensures ∙ equals _ _
