-- Of few lanes `few_at` says it; of a matrix it is columns times rows, as one test over the places computes. Assumes nothing.
use Prim.Native.Nat.{◌+◌, ◌-◌, ◌*◌, ◌/◌, ◌%◌}
use mathlib.Core.Path.{refl}
use native.Mathlib.Omega.{arith}
use borrow.Author.Tests.{lt-ltb}
use lib.Dec.{ltb}
use Rattle.values.specs.Value.{lane_count, kind_at}
use Rattle.places.proofs.Tables.{equal_where, sixteen, count_below}
use Rattle.values.proofs.Tested.{below}
use Rattle.places.proofs.count_at.Goals as goal

pub overflow_mul-result : goal.overflow_mul-result
overflow_mul-result c =
    let p = c.args.p in
    omega (arith, sixteen ((p - 21) % 9 / 3 + 2) ((p - 21) % 3 + 2) (omega arith) (omega arith))

pub returns : goal.returns
unfolding kind_at below
returns c =
    let p = c.args.p in
    let e = equal_where (λ q. ltb 20 q) (λ q. ((q - 21) % 9 / 3 + 2) * ((q - 21) % 3 + 2)) (λ q. lane_count (kind_at q)) refl p c.requires (lt-ltb 20 p c.if-p-le20.false) in
    (e, rw e (count_below (kind_at p)))
