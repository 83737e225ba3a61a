-- Field by field. Assumes nothing.
use Rattle.nested.specs.Nested.{of_call}
use Rattle.nested.proofs.of_call.Goals as goal

pub returns : goal.returns
unfolding of_call
returns c = rw c.rightly_spelled.ensures
