-- What the callees ensure, put together. Assumes nothing.
use Rattle.values.proofs.Places.{there}
use Rattle.places.proofs.Tables.{typed}
use Rattle.judging.proofs.refuse.casting.Goals as goal

pub returns : goal.returns
returns c = rw (c.first_of.ensures, c.bytes_at-2.ensures, c.bytes_at.ensures, c.among-2.ensures, c.among.ensures, c.formed_at.ensures, c.place_at-p.ensures.0, c.known-t.ensures.0, c.word.ensures) (simp (there, typed))
