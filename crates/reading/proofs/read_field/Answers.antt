-- Nothing left is no value; else the length is that of the value's text, or where the first tab stands. Assumes nothing.
use Rattle.reading.proofs.Fields.{nothing_left}
use Rattle.reading.proofs.read_field.Goals as goal

pub returns-then-t-eq0 : goal.returns-then-t-eq0
returns-then-t-eq0 c =
    let z = nothing_left c.args.t.now c.if-t-eq0.true in
    (z.0, rw z.1 c.clear.ensures)

pub returns-then-len-gt0 : goal.returns-then-len-gt0
returns-then-len-gt0 c = (c.value_into-len.ensures.0 c.if-len-gt0.true, c.value_into-len.ensures.1)
