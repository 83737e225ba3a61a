use mathlib.Core.Path.{refl}
use Rattle.nesting.specs.Grammar.{plain}
use Rattle.nesting.proofs.is_plain.Goals as goal

pub returns : goal.returns
unfolding plain
returns c = refl
