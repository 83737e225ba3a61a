-- Its parts are those of the definition. Assumes nothing.
use Rattle.values.proofs.Places.{equals}
use Rattle.kinds.specs.Kinds.{same_types}
use Rattle.kinds.proofs.same_types.Goals as goal

pub returns : goal.returns
unfolding same_types
returns c = rw (c.eq.ensures, c.eq-2.ensures, equals, equals)
