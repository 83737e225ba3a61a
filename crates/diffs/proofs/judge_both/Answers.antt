-- Test by test; a count stands only where neither listing is refused. Assumes nothing.
use Rattle.diffs.proofs.Refusals.{refused_so, short_so, compared_so}
use Rattle.diffs.proofs.judge_both.Goals as goal

pub returns-then-refusal-ne0 : goal.returns-then-refusal-ne0
returns-then-refusal-ne0 c =
    let a = c.args in
    refused_so a.left.now a.right.now c.judge_listing-l.ensures c.judge_listing-r.ensures c.both_refusal-refusal.ensures a.room c.max-count.ensures c.if-refusal-ne0.true

pub returns-then-room-count : goal.returns-then-room-count
returns-then-room-count c =
    let a = c.args in
    short_so a.left.now a.right.now c.judge_listing-l.ensures c.judge_listing-r.ensures c.both_refusal-refusal.ensures a.room c.max-count.ensures c.if-refusal-ne0.false c.if-room-count.true

pub returns : goal.returns
returns c =
    let a = c.args in
    compared_so a.left.now a.right.now c.judge_listing-l.ensures c.judge_listing-r.ensures c.both_refusal-refusal.ensures a.room c.max-count.ensures c.if-refusal-ne0.false c.if-room-count.false
