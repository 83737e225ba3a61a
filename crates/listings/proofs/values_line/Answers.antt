-- The record is the definition, opened. Assumes nothing.
use mathlib.Core.Path.{refl}
use Rattle.listings.specs.Answers.{values_line}
use Rattle.listings.proofs.values_line.Goals as goal

pub returns : goal.returns
unfolding values_line
returns c = refl
