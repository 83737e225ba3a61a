-- By its two cases. Assumes nothing.
use native.Mathlib.Omega.{arith}
use borrow.Author.Tests.{eqb-false}
use Rattle.places.proofs.Tables.{neither}
use Rattle.places.proofs.shaped_at.Goals as goal

pub returns-then-p : goal.returns-then-p
returns-then-p c = rw c.if-p.true

pub overflow_sub-result : goal.overflow_sub-result
overflow_sub-result c = omega (arith, eqb-false c.args.p 0 (neither _ _ c.if-p.false).0)

pub returns : goal.returns
returns c = rw c.if-p.false
