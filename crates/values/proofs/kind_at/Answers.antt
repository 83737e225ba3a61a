-- What each range builds has the place that was asked for, and a type is the one of its place. Past the last place there is none. Assumes nothing.
use mathlib.Core.Path.{sym, ◌∙◌}
use native.Mathlib.Omega.{arith}
use Rattle.values.proofs.Places.{placed, none_past}
use Rattle.values.proofs.kind_at.Goals as goal

pub returns-in-0 : goal.returns-in-0
returns-in-0 c = placed (omega arith)

pub returns-in-1-to-5 : goal.returns-in-1-to-5
returns-in-1-to-5 c = placed (c.one_at.ensures ∙ omega arith)

pub returns-in-6-to-20 : goal.returns-in-6-to-20
returns-in-6-to-20 c = placed (c.vec_at.ensures ∙ omega arith)

pub returns-in-21-to-38 : goal.returns-in-21-to-38
returns-in-21-to-38 c = placed (c.mat_at.ensures ∙ omega arith)

pub returns-in_default : goal.returns-in_default
returns-in_default c = sym (none_past _ (omega arith))
