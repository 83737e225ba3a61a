-- One answer for each side of the test, as `scalar_place_lem` says. Assumes nothing.
use mathlib.Core.Path.{sym, ◌∙◌}
use borrow.Author.Tests.{lt-ltb, le-ltb}
use Rattle.typetexts.proofs.TypeTexts.{scalar_place_lem}
use Rattle.typetexts.proofs.scalar_place.Goals as goal

pub returns-then-p-lt21 : goal.returns-then-p-lt21
returns-then-p-lt21 c = sym (scalar_place_lem c.args.p c.requires.0 c.requires.1 ∙ rw (lt-ltb _ _ c.if-p-lt21.true))

pub returns-else-p-lt21 : goal.returns-else-p-lt21
returns-else-p-lt21 c = sym (scalar_place_lem c.args.p c.requires.0 c.requires.1 ∙ rw (le-ltb _ _ c.if-p-lt21.false))
