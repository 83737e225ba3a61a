-- The name's test and its number are those of the line's first field. Assumes nothing.
use Rattle.lines.specs.Line.{call_of}
use Rattle.lines.proofs.put_call.Goals as goal

pub returns-then-cast : goal.returns-then-cast
unfolding call_of
returns-then-cast c =
    let pre = c.requires in
    rw (← pre.2, c.if-cast.true, ← pre.1, ← c.number_of-builtin.ensures) c.put_cast.ensures

pub returns-else-cast : goal.returns-else-cast
unfolding call_of
returns-else-cast c =
    let pre = c.requires in
    rw (← pre.2, c.if-cast.false, ← pre.1, ← c.number_of-builtin.ensures) c.put_plain.ensures
