-- The library's count is the definition's at 32 bits. Assumes nothing.
use mathlib.Core.Path.{sym}
use Rattle.numeric.specs.Numeric.{trailing_lane}
use Rattle.numeric.proofs.Counts.{trailing_are}
use Rattle.numeric.proofs.trailing_lane.Goals as goal

pub returns : goal.returns
unfolding trailing_lane
returns c = sym (trailing_are 32 _)
