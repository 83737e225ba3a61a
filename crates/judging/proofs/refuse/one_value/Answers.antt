-- What the callees ensure, put together. Assumes nothing.
use Rattle.judging.proofs.refuse.one_value.Goals as goal

pub returns : goal.returns
returns c = rw (c.first_of.ensures, c.among.ensures, c.formed_at.ensures, c.place_at-p.ensures.0)
