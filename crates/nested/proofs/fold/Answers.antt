-- By what the grammar refuses. Assumes nothing.
use mathlib.Core.Path.{◌∙◌}
use Rattle.nested.proofs.Folds.{line_refused}
use Rattle.nested.proofs.fold.Goals as goal

pub returns-then-n-ne0 : goal.returns-then-n-ne0
returns-then-n-ne0 c = c.refused_at.ensures ∙ line_refused _ _ _ c.refusal-n.ensures c.if-n-ne0.true
