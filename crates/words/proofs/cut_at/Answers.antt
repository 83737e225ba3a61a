-- Where words are missing the empty value stands there; elsewhere four words are the first lanes. Assumes nothing.
use Rattle.values.specs.Value.{empty_value}
use Rattle.words.proofs.There.{not_there, cut_there}
use Rattle.words.proofs.cut_at.Goals as goal

pub returns-then-w-at : goal.returns-then-w-at
unfolding empty_value
returns-then-w-at c = rw (not_there c.args.w.now c.args.at c.if-w-at.true)

pub returns : goal.returns
returns c =
    rw (c.cut_lane.ensures, c.cut_lane-2.ensures, c.cut_lane-3.ensures, c.cut_lane-4.ensures)
    (cut_there c.args.w.now c.args.at c.if-w-at.false)
