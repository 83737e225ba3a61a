-- The three tests are the definition's. Assumes nothing.
use mathlib.Core.Path.{◌∙◌}
use Rattle.listings.specs.Answers.{of_fields}
use Rattle.listings.proofs.read_three.Goals as goal

pub returns : goal.returns
unfolding of_fields
returns c = c.refused_if.ensures ∙ rw (c.says_refused.ensures, c.is_number.ensures, c.is_number-2.ensures)
