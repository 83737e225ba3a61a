-- One answer for each side of the test. Assumes nothing.
use borrow.Author.Tests.{lt-ltb, le-ltb}
use Rattle.reading.proofs.ends_at.Goals as goal

pub returns-then-e-t : goal.returns-then-e-t
returns-then-e-t c = rw (lt-ltb _ _ c.if-e-t.true)

pub returns-else-e-t : goal.returns-else-e-t
returns-else-e-t c = rw (le-ltb _ _ c.if-e-t.false)
