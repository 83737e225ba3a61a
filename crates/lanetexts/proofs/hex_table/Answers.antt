-- One test, computed over all digits. Assumes nothing.
use mathlib.Core.Path.{refl}
use Rattle.spelling.specs.Hex.{hex_byte}
use Rattle.values.proofs.Tested.{below}
use Rattle.spelling.proofs.Tested.{tested}
use Rattle.lanetexts.proofs.hex_table.Goals as goal

pub returns : goal.returns
unfolding below
returns c = tested hex_byte 16 _ refl
