-- The type's place is the first word; from there the invariant is that writing all lanes comes to writing those from i on. Assumes nothing.
use Prim.Native.Nat.{◌+◌}
use mathlib.Core.List.{[]}
use mathlib.Core.Path.{◌≡◌, ap, sym, ◌∙◌}
use native.Mathlib.Nat.{add-zero}
use native.Mathlib.Omega.{arith}
use borrow.Author.Rules.{rules}
use lib.ListN.{length, drop, length-set}
use lib.Seq.{drop-length}
use Rattle.buffers.specs.Memory.{put}
use Rattle.buffers.proofs.Puts.{put_cons, put_drop, put_nil}
use Rattle.words.proofs.Kept.{first_of, first_length, first_lane, first_words}
use Rattle.words.proofs.put_lanes.Goals as goal

pub loop-i-init : goal.loop-i-init
loop-i-init c = rw add-zero

pub loop-i-preserved : goal.loop-i-preserved
loop-i-preserved c =
    let a = c.args in
    let l = c.loop-i in
    let four : length a.x ≡ 4 = search rules in
    let n = first_length a.p a.x four in
    let m = length-set a.out.now a.at a.p in
    let e = first_lane a.p a.x l.i four c.loop-i-test.true c.few_at-n.ensures.0 c.lane_at.ensures in
    l.invariant ∙ rw e (put_drop l.out (a.at + 1) (first_of a.p a.x).lanes l.i (omega arith) (omega arith))

pub returns : goal.returns
returns c =
    let a = c.args in
    let l = c.loop-i in
    let four : length a.x ≡ 4 = search rules in
    let n = first_length a.p a.x four in
    let lanes = (first_of a.p a.x).lanes in
    let e : l.i ≡ length lanes = omega arith in
    let z : drop l.i lanes ≡ [] = rw (e, drop-length) in
    sym
    (ap (put a.out.now a.at) (first_words a.p a.x (omega (arith, c.requires.1))) ∙ put_cons a.out.now a.at a.p lanes (omega arith)
    ∙ l.invariant ∙ rw z (put_nil l.out (a.at + 1 + l.i)))
