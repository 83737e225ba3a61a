-- By the first refusal among the arguments. Assumes nothing.
use mathlib.Core.Path.{◌∙◌}
use borrow.Author.Tests.{eq-eqb, ne_eqb}
use Rattle.nested.specs.Nested.{judged}
use Rattle.nested.proofs.judge.Goals as goal

pub returns-then-g-ne0 : goal.returns-then-g-ne0
unfolding judged
returns-then-g-ne0 c = c.refused_at.ensures ∙ rw (ne_eqb _ _ c.if-g-ne0.true)

pub returns : goal.returns
unfolding judged
returns c = c.tell.ensures ∙ rw (c.fold_in.ensures, c.call_by.ensures, eq-eqb _ _ c.if-g-ne0.false)
