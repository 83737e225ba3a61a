-- Five types to a length, in the order of their scalars, as one test over the places computes. Assumes nothing.
use Prim.Native.Nat.{◌+◌, ◌-◌, ◌*◌, ◌/◌}
use mathlib.Core.Bool.{true, cond, ◌||◌}
use mathlib.Core.Path.{refl, ◌∙◌}
use lib.Dec.{eqb, ltb}
use Rattle.values.specs.declared.Scalar.TheVariants.{I32}
use Rattle.values.specs.Value.{place, shaped, kind_at}
use Rattle.places.proofs.Tables.{equal_where, integers_below}
use Rattle.values.proofs.Tested.{below}
use Rattle.places.proofs.integers_at.Goals as goal

pub returns : goal.returns
unfolding kind_at below
returns c =
    let p = c.args.p in
    let e = c.shaped_at.ensures ∙ equal_where (λ q. true) (λ q. cond (eqb q 0 || ltb 20 q) 0 ((q - 1) / 5 * 5 + 1 + 1)) (λ q. place (shaped I32 (kind_at q))) refl p c.requires refl in
    (e, rw e (integers_below (kind_at p)))
