-- No byte past the eleventh is looked at. Assumes nothing.
use mathlib.Core.Path.{ap, ◌∙◌}
use Rattle.typenames.specs.Program.{type_from}
use Rattle.typenames.proofs.TypeTexts.{by_first_bytes}
use Rattle.typenames.proofs.type_from.Goals as goal

pub returns : goal.returns
returns c =
    (c.type_by.ensures.0 ∙ ap type_from c.first_bytes.ensures ∙ by_first_bytes c.args.t.now, c.type_by.ensures.1)
