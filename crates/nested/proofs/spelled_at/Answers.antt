-- By whether it is a type's. Assumes nothing.
use Rattle.nested.specs.Nested.{spelled}
use Rattle.nested.proofs.spelled_at.Goals as goal

pub returns-then-cast : goal.returns-then-cast
unfolding spelled
returns-then-cast c = rw c.if-cast.true c.spelled_type.ensures

pub returns-else-cast : goal.returns-else-cast
unfolding spelled
returns-else-cast c = rw c.if-cast.false c.spelled_value.ensures
