-- By the refusal of the two listings. Assumes nothing.
use borrow.Author.Tests.{ne_eqb}
use Rattle.diffs.specs.Places.{first_place}
use Rattle.diffs.proofs.Refusals.{found}
use Rattle.diffs.proofs.first_place.Goals as goal

pub returns-then-both_refusal-ne0 : goal.returns-then-both_refusal-ne0
unfolding first_place
returns-then-both_refusal-ne0 c =
    let a = c.args in
    let r = found a.left.now a.right.now c.judge_listing-l.ensures c.judge_listing-r.ensures c.both_refusal.ensures in
    rw (← r, ne_eqb c.both_refusal.result 0 c.if-both_refusal-ne0.true)

pub returns : goal.returns
unfolding first_place
returns c =
    let a = c.args in
    let r = found a.left.now a.right.now c.judge_listing-l.ensures c.judge_listing-r.ensures c.both_refusal.ensures in
    rw (← r, c.if-both_refusal-ne0.false) c.place_from.ensures
