-- The invariant: the first place from here on is the first place of all; the lines that are left are enough for the walk. Assumes nothing.
use mathlib.Core.Path.{sym, ◌∙◌}
use native.Mathlib.Omega.{arith}
use Rattle.listings.proofs.ListingLines.{next_in, next_more}
use Rattle.diffs.proofs.FirstLine.{walk_start, both_left, walk_more, walk_end}
use Rattle.diffs.proofs.place_from.Goals as goal

pub loop-i-init : goal.loop-i-init
loop-i-init c = (omega arith, omega arith, walk_start c.args.left.now c.args.right.now)

pub loop-i-smaller : goal.loop-i-smaller
loop-i-smaller c =
    let a = c.args in
    let l = c.loop-i in
    let h = both_left a.left.now a.right.now l.invariant.2 (sym c.same_at.ensures ∙ c.loop-i-test.true) in
    omega (arith, h.0, next_more a.left.now l.i h.0, next_in a.left.now l.i, c.next_at-i.ensures)

pub loop-i-preserved : goal.loop-i-preserved
loop-i-preserved c =
    let a = c.args in
    let l = c.loop-i in
    let w = walk_more a.left.now a.right.now l.invariant.2 (sym c.same_at.ensures ∙ c.loop-i-test.true) c.next_at-i.ensures c.next_at-j.ensures in
    (omega (arith, next_in a.left.now l.i, c.next_at-i.ensures), omega (arith, next_in a.right.now l.j, c.next_at-j.ensures), w)

pub returns : goal.returns
returns c =
    let a = c.args in
    c.told_place.ensures ∙ walk_end a.left.now a.right.now c.loop-i.invariant.2 (sym c.same_at.ensures ∙ c.loop-i-test.false)
