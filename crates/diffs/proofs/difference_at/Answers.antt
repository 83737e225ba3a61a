-- Test by test. Assumes nothing.
use Rattle.diffs.specs.Places.{difference_at}
use Rattle.diffs.proofs.difference_at.Goals as goal

pub returns-then-l-r : goal.returns-then-l-r
unfolding difference_at
returns-then-l-r c = rw (c.if-l-r.true, ← c.line_at.ensures, ← c.line_at-then-l-r.ensures) c.line_kind.ensures

pub returns-then-l-r-2 : goal.returns-then-l-r-2
unfolding difference_at
returns-then-l-r-2 c = rw (c.if-l-r.false, c.if-l-r-2.true)

pub returns : goal.returns
unfolding difference_at
returns c = rw (c.if-l-r.false, c.if-l-r-2.false)
