-- What the callees ensure, put together. Assumes nothing.
use Rattle.values.proofs.Places.{there}
use Rattle.judging.proofs.refuse.selecting.Goals as goal

pub returns : goal.returns
returns c = rw (c.first_of.ensures, c.among.ensures, c.booleans_at.ensures, c.formed_at-3.ensures, c.formed_at-2.ensures, c.formed_at.ensures, c.place_at-r.ensures.0, c.place_at-q.ensures.0, c.place_at-p.ensures.0, there)
