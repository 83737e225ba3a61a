-- The bytes that were read stand behind what is held. Assumes nothing.
use native.Mathlib.Omega.{arith}
use Rattle.inputs.proofs.Turned.{filled}
use Rattle.refilling.proofs.refill.Goals as goal

pub returns-clause-ok : goal.returns-clause-ok
returns-clause-ok g c =
    let e = c.in_ok-n.ensures in
    filled c.in_ok-n.n c.requires.0 (omega arith) e.fits e.same_length e.stays c.got.ensures

pub returns-clause-bytes : goal.returns-clause-bytes
unfolding filled
returns-clause-bytes g c =
    let e = c.in_ok-n.ensures in
    (filled c.in_ok-n.n c.requires.0 (omega arith) e.fits e.same_length e.stays c.got.ensures, e.bytes.0)
