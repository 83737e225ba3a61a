-- One answer for each side of the test. Assumes nothing.
use borrow.Author.Tests.{lt-ltb, le-ltb}
use Rattle.words.proofs.lane_at.Goals as goal

pub returns-then-i-lt4 : goal.returns-then-i-lt4
returns-then-i-lt4 c = rw (lt-ltb _ _ c.if-i-lt4.true) c.kept_lane.ensures

pub returns-else-i-lt4 : goal.returns-else-i-lt4
returns-else-i-lt4 c = rw (le-ltb _ _ c.if-i-lt4.false)
