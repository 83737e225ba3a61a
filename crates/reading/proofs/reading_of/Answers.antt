-- The value is all of the text, as `whole_found` says, or there is a fault and no value, as `whole_none` says. Assumes nothing.
use Rattle.spelling.specs.Read.{found}
use Rattle.reading.proofs.Fields.{whole_found, whole_none}
use Rattle.reading.proofs.reading_of.Goals as goal

pub returns-then-place_at-len : goal.returns-then-place_at-len
unfolding found
returns-then-place_at-len c =
    rw c.value_at.ensures (whole_found c.args.s.now c.requires.1 (rw (c.place_at.ensures.0, c.requires.0) at c.if-place_at-len.true))

pub returns : goal.returns
returns c =
    let e = whole_none c.args.s.now c.requires.1 (rw (c.place_at.ensures.0, c.requires.0) at c.if-place_at-len.false) in
    rw (c.empty.ensures, c.fault_in-f.ensures.0, c.fault_in-f.ensures.1, e)
