-- One answer for each side of the test. Assumes nothing.
use borrow.Author.Tests.{eq-eqb, ne_eqb}
use Rattle.builtins.proofs.matrix.put_selected.Goals as goal

pub returns-then-w-eq0 : goal.returns-then-w-eq0
returns-then-w-eq0 c =
    rw (eq-eqb _ 0 c.if-w-eq0.true) c.put_copy.ensures

pub returns-else-w-eq0 : goal.returns-else-w-eq0
returns-else-w-eq0 c =
    rw (ne_eqb _ 0 c.if-w-eq0.false) c.put_copy-else-w-eq0.ensures
