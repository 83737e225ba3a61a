-- The two sets tell the bound of each type, as one test over the places computes. Assumes nothing.
use Prim.Native.Nat.{◌^◌}
use mathlib.Core.Bool.{true, cond}
use mathlib.Core.Path.{refl}
use Rattle.values.specs.Value.{lane_bits, scalar_of, kind_at}
use Rattle.places.specs.Program.{member}
use Rattle.places.proofs.Tables.{equal_where}
use Rattle.values.proofs.Tested.{below}
use Rattle.places.proofs.bound_at.Goals as goal

pub returns : goal.returns
unfolding kind_at below
returns c =
    rw (c.choose.ensures, c.among-2.ensures, c.choose-wide.ensures, c.among.ensures)
    (equal_where (λ p. true) (λ p. cond (member 0x1_0843 p) 2 (cond (member 0x7f_c010_8420 p) 0x1_0000 0x1_0000_0000)) (λ p. 2 ^ lane_bits (scalar_of (kind_at p))) refl c.args.p c.requires refl)
