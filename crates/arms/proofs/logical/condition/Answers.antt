-- A scalar condition is the type at place 1. Assumes nothing.
use mathlib.Core.Path.{sym, ◌∙◌}
use borrow.Author.Tests.{eq-eqb, ne_eqb}
use Rattle.arms.proofs.logical.condition.Goals as goal

pub returns-then-place_at-eq-BOOL : goal.returns-then-place_at-eq-BOOL
returns-then-place_at-eq-BOOL c = rw (eq-eqb _ 1 (sym c.place_at.ensures.0 ∙ c.if-place_at-eq-BOOL.true), c.cut_at-x.ensures)

pub returns-else-place_at-eq-BOOL : goal.returns-else-place_at-eq-BOOL
returns-else-place_at-eq-BOOL c = rw (ne_eqb _ 1 (λ e. c.if-place_at-eq-BOOL.false (c.place_at.ensures.0 ∙ e))) c.cut_at-x.ensures
