-- The invariant: the check of all lanes comes to the check of the lanes from i on, with i fewer in use. Assumes nothing.
use Prim.Native.Nat.{◌<◌, ◌≤◌}
use native.Mathlib.Omega.{arith}
use mathlib.Core.Bool.{cond}
use mathlib.Core.Path.{sym, ◌∙◌}
use lib.Dec.{ltb}
use lib.ListN.{get_or}
use Rattle.values.proofs.Checked.{checked, passed, failed, done}
use Rattle.checks.proofs.all_ok.Goals as goal

pub returns-then-limit_at-x : goal.returns-then-limit_at-x
unfolding checked
returns-then-limit_at-x c =
    let i = c.loop-i.i in
    let a = c.args in
    let h : cond (ltb i a.n) a.bound 1 ≤ get_or a.l.now i 0 = omega arith in
    sym (c.loop-i.invariant ∙ failed a.l.now a.n a.bound i (omega arith) h)

pub loop-i-preserved : goal.loop-i-preserved
loop-i-preserved c =
    let i = c.loop-i.i in
    let a = c.args in
    let h : get_or a.l.now i 0 < cond (ltb i a.n) a.bound 1 = omega arith in
    c.loop-i.invariant ∙ passed a.l.now a.n a.bound i (omega arith) h

pub returns : goal.returns
unfolding checked
returns c =
    let a = c.args in
    sym (c.loop-i.invariant ∙ done a.l.now a.n a.bound c.loop-i.i (omega arith))
