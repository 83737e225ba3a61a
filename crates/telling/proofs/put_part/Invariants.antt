-- The invariant: what is written and what is still to be written are the part; each turn writes a line. Assumes nothing.
use Rattle.telling.proofs.Parts.{Partly}
use Rattle.telling.proofs.put_part.Given as goal

abbrev pub invariant-loop-i : goal.invariant-loop-i
invariant-loop-i l = Partly l.kinds l.done l.initial.out l.out l.at l.i l.end
