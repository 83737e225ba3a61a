-- Where nothing is refused, as many kinds are written as are counted; else nothing is. Assumes nothing.
use lib.ListN.{length}
use Rattle.buffers.proofs.Puts.{put_nil}
use Rattle.diffs.proofs.Refusals.{none_in, in_room, walked_in}
use Rattle.diffs.proofs.compare_listings.Goals as goal

pub put_kinds-requires : goal.put_kinds-requires
put_kinds-requires c =
    let a = c.args in
    in_room (length a.kinds.now) a.left.now a.right.now c.judge_both-c.ensures c.if-c-eq0.true

pub returns-then-c-eq0 : goal.returns-then-c-eq0
returns-then-c-eq0 c =
    let a = c.args in
    let e = c.judge_both-c.ensures in
    (e, rw (← walked_in (length a.kinds.now) a.left.now a.right.now e c.if-c-eq0.true) c.put_kinds.ensures)

pub returns-else-c-eq0 : goal.returns-else-c-eq0
returns-else-c-eq0 c =
    let a = c.args in
    let e = c.judge_both-c.ensures in
    (e, rw (none_in (length a.kinds.now) a.left.now a.right.now e c.if-c-eq0.false, put_nil a.kinds.now 0))
