-- The first of four, or else of the next four. Assumes nothing.
use Rattle.buffers.proofs.FirstPlace.{first_eight}
use Rattle.buffers.proofs.first_of_eight.Goals as goal

pub returns : goal.returns
returns c =
    rw (c.first_of_four-2.ensures, c.first_of_four.ensures) (first_eight c.args.b c.args.s.now c.args.i c.requires.1)
