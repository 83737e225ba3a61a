-- Where words are missing the empty value stands there. Assumes nothing.
use native.Mathlib.Omega.{arith}
use Rattle.values.specs.Value.{empty_value}
use Rattle.words.proofs.There.{not_there, there}
use Rattle.words.proofs.place_at.Goals as goal

pub returns-then-w-at : goal.returns-then-w-at
unfolding empty_value
returns-then-w-at c = (rw (not_there c.args.w.now c.args.at c.if-w-at.true), omega arith)

pub returns : goal.returns
returns c = rw (there c.args.w.now c.args.at c.if-w-at.false) c.known.ensures
