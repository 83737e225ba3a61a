-- One test of each table, computed over all codes. Assumes nothing.
use mathlib.Core.Path.{refl}
use mathlib.Core.Bool.{true, false}
use lib.Ieee as Ieee
use Rattle.values.proofs.Tested.{below}
use Rattle.norm.specs.Norm.{unpacked_norm}
use Rattle.tables.proofs.Unpacked.{all_unpacked}
use Rattle.tables.proofs.entries_of.Goals as goal

pub returns-then-signed : goal.returns-then-signed
unfolding below unpacked_norm Ieee.size Ieee.to_bits Ieee.div Ieee.lt Ieee.is_nan Ieee.of_int
returns-then-signed c = rw c.if-signed.true (all_unpacked true _ refl)

pub returns-else-signed : goal.returns-else-signed
unfolding below unpacked_norm Ieee.size Ieee.to_bits Ieee.div Ieee.lt Ieee.is_nan Ieee.of_int
returns-else-signed c = rw c.if-signed.false (all_unpacked false _ refl)
