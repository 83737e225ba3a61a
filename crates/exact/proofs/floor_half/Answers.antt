-- `exact::floor_half` meets its contract: its steps are the definition's. Assumes nothing.
use Rattle.exact.specs.Exact.{floor_half}
use Rattle.exact.proofs.floor_half.Goals as goal

pub returns : goal.returns
unfolding floor_half
returns c = rw c.moved.ensures
