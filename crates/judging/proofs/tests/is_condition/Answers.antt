-- What the callees ensure, put together. Assumes nothing.
use Rattle.judging.proofs.tests.is_condition.Goals as goal

pub returns : goal.returns
returns c = rw (c.booleans_at.ensures, c.among.ensures, c.formed_at.ensures, c.place_at-q.ensures.0)
