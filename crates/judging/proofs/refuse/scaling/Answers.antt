-- What the callees ensure, put together. Assumes nothing.
use Rattle.values.proofs.Places.{there}
use Rattle.calls.proofs.Shaped.{i32s}
use Rattle.judging.proofs.refuse.scaling.Goals as goal

pub returns : goal.returns
returns c = rw (c.first_of.ensures, c.integers_at.ensures.0, c.among-2.ensures, c.among.ensures, c.formed_at-2.ensures, c.formed_at.ensures, c.place_at-q.ensures.0, c.place_at-p.ensures.0, there, i32s)
