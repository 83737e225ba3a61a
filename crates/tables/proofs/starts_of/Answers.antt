-- One test of each table, computed over all starts. Assumes nothing.
use mathlib.Core.Path.{refl}
use mathlib.Core.Bool.{true, false}
use lib.Ieee as Ieee
use Rattle.values.proofs.Tested.{below}
use Rattle.norm.specs.Norm.{stepped, floor_code, packed_norm}
use Rattle.tables.proofs.Reached.{all_begin}
use Rattle.tables.proofs.starts_of.Goals as goal

pub returns-then-signed : goal.returns-then-signed
unfolding below stepped floor_code packed_norm Ieee.size Ieee.of_bits Ieee.add Ieee.mul Ieee.lt Ieee.of_int
returns-then-signed c = rw c.if-signed.true (all_begin true _ refl refl)

pub returns-else-signed : goal.returns-else-signed
unfolding below stepped floor_code packed_norm Ieee.size Ieee.of_bits Ieee.add Ieee.mul Ieee.lt Ieee.of_int
returns-else-signed c = rw c.if-signed.false (all_begin false _ refl refl)
