use borrow.Author.Tests.{eq-eqb, ne_eqb}
use borrow.Author.Rules.{rules}
use Rattle.cutting.proofs.lines_left.Goals as goal

pub returns-then-size-eq0 : goal.returns-then-size-eq0
returns-then-size-eq0 c = (search rules, rw (eq-eqb _ 0 c.if-size-eq0.true))

pub returns-else-size-eq0 : goal.returns-else-size-eq0
returns-else-size-eq0 c = (search rules, rw (ne_eqb _ 0 c.if-size-eq0.false))
