-- Four choices from the last back are the first of the four places that holds b, or the rest. Assumes nothing.
use native.Mathlib.Nat.{add-zero}
use native.Mathlib.Omega.{arith}
use Rattle.buffers.proofs.FirstPlace.{place_of_lem}
use Rattle.buffers.proofs.first_of_four.Goals as goal

pub returns : goal.returns
returns c =
    let a = c.args in
    rw (c.choose.ensures, c.choose-from1.ensures, c.choose-from2.ensures, c.choose-from3.ensures)
    (rw add-zero at (place_of_lem a.b a.s.now a.i 0 4 a.rest (omega arith) (omega arith)))
