-- With a tab more there are four fields or more; else what is left is the third. Assumes nothing.
use mathlib.Core.Path.{sym, ◌∙◌}
use native.Mathlib.Omega.{arith}
use Rattle.listings.proofs.Parted.{whole, too_many}
use Rattle.listings.proofs.read_third.Goals as goal

pub returns-then-find-t : goal.returns-then-find-t
returns-then-find-t c =
    let a = c.args in
    c.no_answer.ensures ∙ sym (too_many a.v.now a.n.now a.t.now (omega arith))

pub returns-else-find-t : goal.returns-else-find-t
returns-else-find-t c = c.read_three.ensures ∙ sym (rw (whole c.args.t.now (omega arith)))
