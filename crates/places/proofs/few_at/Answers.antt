-- Five types to a length, as one test over the places computes. Assumes nothing.
use Prim.Native.Nat.{◌+◌, ◌/◌}
use mathlib.Core.Path.{refl}
use native.Mathlib.Omega.{arith}
use borrow.Author.Tests.{le-leb}
use lib.Dec.{leb}
use Rattle.values.specs.Value.{lane_count, kind_at}
use Rattle.places.proofs.Tables.{equal_where}
use Rattle.values.proofs.Tested.{below}
use Rattle.places.proofs.few_at.Goals as goal

pub returns : goal.returns
unfolding kind_at below
returns c =
    let p = c.args.p in
    (equal_where (λ q. leb q 20) (λ q. (q + 4) / 5) (λ q. lane_count (kind_at q)) refl p (omega (arith, c.requires)) (le-leb p 20 c.requires), omega (arith, c.requires))
