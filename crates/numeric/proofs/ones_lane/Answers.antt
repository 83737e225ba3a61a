-- The library's count is the definition's at 32 bits. Assumes nothing.
use mathlib.Core.Path.{sym}
use native.Mathlib.Omega.{arith}
use Rattle.numeric.specs.Numeric.{ones_lane}
use Rattle.numeric.proofs.Counts.{ones_are}
use Rattle.numeric.proofs.ones_lane.Goals as goal

pub returns : goal.returns
unfolding ones_lane
returns c = sym (ones_are 32 _ (omega arith))
