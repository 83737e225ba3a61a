-- Four and four. Assumes nothing.
use Rattle.buffers.proofs.FirstPlace.{none_eight}
use Rattle.buffers.proofs.none_of_eight.Goals as goal

pub returns : goal.returns
returns c =
    let a = c.args in
    rw (c.none_of_four.ensures, c.none_of_four-2.ensures) (none_eight a.b a.s.now a.i)
