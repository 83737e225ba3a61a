-- The library's count is the definition's at 32 bits. Assumes nothing.
use mathlib.Core.Path.{sym}
use native.Mathlib.Omega.{arith}
use Rattle.numeric.specs.Numeric.{leading_lane}
use Rattle.numeric.proofs.Counts.{leading_are}
use Rattle.numeric.proofs.leading_lane.Goals as goal

pub returns : goal.returns
unfolding leading_lane
returns c = sym (leading_are 32 _ (omega arith))
