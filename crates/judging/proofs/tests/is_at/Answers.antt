-- What the callee ensures; a place is its type's own. Assumes nothing.
use native.Mathlib.Omega.{arith}
use Rattle.places.proofs.Tables.{own_place}
use Rattle.judging.proofs.tests.is_at.Goals as goal

pub returns : goal.returns
returns c = rw (c.formed_as.ensures, own_place c.args.p (omega (arith, c.requires.2)))
