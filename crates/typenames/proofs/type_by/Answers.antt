-- One answer for each first byte. Assumes nothing.
use native.Mathlib.Omega.{arith}
use borrow.Author.Tests.{eq-eqb, ne_eqb}
use Rattle.typenames.specs.Program.{type_from}
use Rattle.typenames.proofs.type_by.Goals as goal

pub returns-then-x-eq118 : goal.returns-then-x-eq118
unfolding type_from
returns-then-x-eq118 c = (rw (eq-eqb _ _ c.if-x-eq118.true) c.vector_from.ensures.0, c.vector_from.ensures.1)

pub returns-then-x-eq109 : goal.returns-then-x-eq109
unfolding type_from
returns-then-x-eq109 c = (rw (ne_eqb _ _ c.if-x-eq118.false, eq-eqb _ _ c.if-x-eq109.true) c.matrix_from.ensures.0, c.matrix_from.ensures.1)

pub returns : goal.returns
unfolding type_from
returns c = (rw (ne_eqb _ _ c.if-x-eq118.false, ne_eqb _ _ c.if-x-eq109.false) c.scalar_by.ensures.0, omega arith)
