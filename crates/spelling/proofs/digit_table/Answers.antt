-- One test, computed over all bytes. Assumes nothing.
use mathlib.Core.Path.{refl}
use Rattle.spelling.specs.Hex.{digit_of}
use Rattle.values.proofs.Tested.{below}
use Rattle.spelling.proofs.Tested.{tested}
use Rattle.spelling.proofs.digit_table.Goals as goal

pub invariant_of-result : goal.invariant_of-result
unfolding below
invariant_of-result c = record { right = tested digit_of 256 _ refl }
