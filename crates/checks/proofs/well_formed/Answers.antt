-- The two parts of the check are joined by `judged`. Assumes nothing.
use Rattle.values.proofs.Formed.{judged}
use Rattle.checks.proofs.well_formed.Goals as goal

pub returns : goal.returns
returns c =
    judged c.args.v c.is_type.ensures
    c.lane_count.ensures.0 c.scalar_of.ensures c.lane_bound.ensures c.lanes_formed.ensures
