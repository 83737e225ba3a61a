-- By the refusal. Assumes nothing.
use mathlib.Core.Path.{◌∙◌}
use borrow.Author.Tests.{eq-eqb, ne_eqb}
use Rattle.nested.specs.Nested.{told, unplaced}
use Rattle.nested.proofs.tell.Goals as goal

pub returns-then-x-eq3 : goal.returns-then-x-eq3
unfolding told
returns-then-x-eq3 c = c.refused_at.ensures ∙ rw (eq-eqb _ _ c.if-x-eq3.true)

pub returns : goal.returns
unfolding told unplaced
returns c = rw (ne_eqb _ _ c.if-x-eq3.false)
