-- What the callees ensure, put together. Assumes nothing.
use Rattle.judging.proofs.refuse.three_alike.Goals as goal

pub returns : goal.returns
returns c = rw (c.first_of.ensures, c.among-3.ensures, c.among-2.ensures, c.among.ensures, c.formed_at-3.ensures, c.formed_at-2.ensures, c.formed_at.ensures, c.place_at-r.ensures.0, c.place_at-q.ensures.0, c.place_at-p.ensures.0)
