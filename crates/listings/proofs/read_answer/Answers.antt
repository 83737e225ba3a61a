-- The line is cut at its first tab, or is one field. Assumes nothing.
use mathlib.Core.Path.{ap, sym, ◌∙◌}
use native.Mathlib.Omega.{arith}
use Rattle.listings.proofs.Parted.{whole, cut_at}
use Rattle.listings.specs.Answers.{of_fields, read_answer}
use Rattle.listings.proofs.read_answer.Goals as goal

pub returns-then-n-line : goal.returns-then-n-line
unfolding read_answer
returns-then-n-line c = c.read_second.ensures ∙ sym (ap of_fields (cut_at c.args.line.now c.find-n.ensures.0 c.if-n-line.true))

pub returns-else-n-line : goal.returns-else-n-line
unfolding read_answer of_fields
returns-else-n-line c = c.read_lone.ensures ∙ sym (rw (whole c.args.line.now (omega arith)))
