-- The fault is the line's, whose first argument is a type where its name is bitcast's. Assumes nothing.
use Rattle.lines.proofs.misspelled.Goals as goal

pub returns : goal.returns
returns c = rw (c.line_fault-m.ensures, c.requires.2)
