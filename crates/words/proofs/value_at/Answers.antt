-- One answer for each side of the test of the length. Assumes nothing.
use borrow.Author.Tests.{le-leb, lt-leb}
use Rattle.words.specs.Words.{value_at}
use Rattle.words.proofs.value_at.Goals as goal

pub returns-then-w-at : goal.returns-then-w-at
unfolding value_at
returns-then-w-at c = rw (lt-leb _ _ c.if-w-at.true) c.empty.ensures

pub returns : goal.returns
unfolding value_at
returns c = rw (le-leb _ _ c.if-w-at.false, ← c.kind_at.ensures, ← c.sixteen.ensures)
