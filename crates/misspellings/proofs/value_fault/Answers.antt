-- The fault's number and its place are those that reading tells. Assumes nothing.
use mathlib.Core.Path.{◌∙◌}
use Rattle.misspellings.proofs.value_fault.Goals as goal

pub returns : goal.returns
returns c =
    let f = c.fault_in-f.ensures in
    c.misspelled.ensures ∙ rw (c.fault_number.ensures, f.0, f.1)
