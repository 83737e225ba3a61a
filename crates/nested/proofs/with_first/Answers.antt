-- By whether the first is a type. Assumes nothing.
use Rattle.nested.specs.Nested.{joined}
use Rattle.nested.proofs.with_first.Goals as goal

pub returns-then-x : goal.returns-then-x
unfolding joined
returns-then-x c = rw (c.first_of-fault.ensures, c.first_of-refused.ensures, c.if-x.true)

pub returns : goal.returns
unfolding joined
returns c = rw (c.first_of-fault.ensures, c.first_of-refused.ensures, c.if-x.false)
