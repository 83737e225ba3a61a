-- By what the field is. Assumes nothing.
use mathlib.Core.Path.{◌∙◌}
use Rattle.misspellings.specs.Misspellings.{field_fault}
use Rattle.misspellings.proofs.field_fault.Goals as goal

pub returns-then-cast : goal.returns-then-cast
unfolding field_fault
returns-then-cast c = c.type_fault.ensures ∙ rw c.if-cast.true

pub returns-else-cast : goal.returns-else-cast
unfolding field_fault
returns-else-cast c = c.value_fault.ensures ∙ rw c.if-cast.false
