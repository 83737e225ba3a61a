-- Its three tests are those of the definition. Assumes nothing.
use mathlib.Core.Path.{◌∙◌}
use Rattle.listings.specs.Answers.{is_number, decimal_digit}
use Rattle.listings.proofs.Made.{all_every}
use Rattle.listings.proofs.is_number.Goals as goal

pub returns : goal.returns
unfolding is_number
returns c = rw (c.all_decimal.ensures ∙ all_every decimal_digit c.args.s.now)
