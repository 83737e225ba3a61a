-- One lane more is the test of those before it and of that lane. Assumes nothing.
use Prim.Native.Nat.{◌-◌}
use native.Mathlib.Omega.{arith}
use mathlib.Core.Bool.{◌&&◌}
use mathlib.Core.Path.{ap, sym, ◌∙◌}
use lib.Dec.{eqb}
use lib.ListN.{length, take, drop, get_or, length-drop}
use lib.Seq.{take_all}
use Rattle.values.specs.Value.{every}
use Rattle.values.proofs.Every.{every_more}
use Rattle.checks.proofs.none_past.Goals as goal

pub loop-x-preserved : goal.loop-x-preserved
loop-x-preserved c =
    let l = c.args.l.now in
    let items = take (length l - 4) (drop 4 l) in
    ap (λ b. b && eqb (get_or items c.loop-x.x-index 0) 0) c.loop-x.invariant ∙ sym (every_more (λ x. eqb x 0) items c.loop-x.x-index c.loop-x-test.true)

pub returns : goal.returns
returns c =
    let l = c.args.l.now in
    let items = take (length l - 4) (drop 4 l) in
    c.loop-x.invariant ∙ ap (every (λ x. eqb x 0)) (take_all c.loop-x.x-index items c.loop-x-test.false ∙ take_all (length l - 4) (drop 4 l) (omega (arith, length-drop 4 l)))
