-- The invariant: what is written and what is still to be written are the part; each turn writes a line. Assumes nothing.
use native.Mathlib.Omega.{arith}
use Rattle.telling.proofs.Parts.{none_yet, line_fits, line_more, part_done}
use Rattle.telling.proofs.put_part.Goals as goal

pub loop-i-init : goal.loop-i-init
loop-i-init c = none_yet c.args.kinds.now c.args.done c.max-end.result c.args.out.now (omega arith)

pub put_kind-at-requires : goal.put_kind-at-requires
put_kind-at-requires c = line_fits c.args.kinds.now c.loop-i.invariant (omega arith) (omega arith) c.requires

pub loop-i-preserved : goal.loop-i-preserved
loop-i-preserved c = line_more c.args.kinds.now c.loop-i.invariant (omega arith) (omega arith) c.requires c.put_kind-at.ensures

pub shape_of-out : goal.shape_of-out
shape_of-out c = c.loop-i.invariant.size

pub returns : goal.returns
returns c = part_done c.args.kinds.now c.loop-i.invariant (omega arith)
