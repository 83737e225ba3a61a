-- `norm::Format::step` meets its contract: each operation is the definition's. Assumes nothing.
use mathlib.Core.Bool.{Bool, true, false}
use lib.Dec.{T}
use lib.Ieee.{Float, le, of_bits}
use Rattle.norm.specs.Norm.{least, stepped}
use Rattle.norm.proofs.Format.step.Goals as goal

-- what is at or above the least of both kinds
either : (g : Bool) (x : Float) → T (le (least false) x) → T (le (least true) x) → T (le (least g) x)
either false x h k = h
either true x h k = k

pub clamp-requires : goal.clamp-requires
unfolding of_bits le
clamp-requires c = rw c.least.ensures (either c.args.self.signed _ tt tt)

pub returns : goal.returns
unfolding of_bits stepped
returns c = rw (c.clamp.ensures.value, c.whole.ensures, c.scale.ensures, c.least.ensures)
