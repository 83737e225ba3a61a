-- By the first field, as the definition goes. Assumes nothing.
use mathlib.Core.Path.{◌∙◌}
use Rattle.listings.specs.Answers.{of_fields}
use Rattle.listings.proofs.read_two.Goals as goal

pub returns-then-says_refused : goal.returns-then-says_refused
unfolding of_fields
returns-then-says_refused c = c.refused_if.ensures ∙ rw (← c.says_refused.ensures, c.if-says_refused.true, c.is_number.ensures)

pub returns-else-says_refused : goal.returns-else-says_refused
unfolding of_fields
returns-else-says_refused c = c.read_pair.ensures ∙ rw (← c.says_refused.ensures, c.if-says_refused.false)
