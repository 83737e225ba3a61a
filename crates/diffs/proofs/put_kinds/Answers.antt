-- The invariant: what is written and what is still to be written are all kinds. Assumes nothing.
use Prim.Native.Nat.{◌-◌}
use mathlib.Core.Path.{◌≡◌, refl, sym, ◌∙◌}
use native.Mathlib.Omega.{arith}
use borrow.Author.Rules.{rules}
use Rattle.buffers.proofs.Puts.{put_nil}
use Rattle.diffs.specs.Places.{kinds_from}
use Rattle.diffs.proofs.Walk.{kind_more}
use Rattle.diffs.proofs.put_kinds.Goals as goal

pub loop-k-init : goal.loop-k-init
loop-k-init c =
    let a = c.args in
    let e : a.n - 0 ≡ a.n = omega arith in
    (refl, rw e)

pub loop-k-preserved : goal.loop-k-preserved
loop-k-preserved c =
    let a = c.args in
    let l = c.loop-k in
    (search rules, sym (kind_more a.left.now l.i a.right.now l.j l.kinds a.n l.k (omega arith) (omega arith) c.difference_at.ensures c.kind_number.ensures.0 c.next_at-i.ensures c.next_at-j.ensures) ∙ l.invariant.1)

pub returns : goal.returns
unfolding kinds_from
returns c =
    let a = c.args in
    let l = c.loop-k in
    let e : a.n - l.k ≡ 0 = omega arith in
    sym (put_nil l.kinds l.k) ∙ (rw e at l.invariant.1)
