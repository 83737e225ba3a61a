-- Where words are missing the empty value stands there; elsewhere the parts of the check are joined by `formed_there`. Assumes nothing.
use Prim.Native.Nat.{◌+◌, ◌-◌}
use mathlib.Core.Path.{◌≡◌, sym}
use native.Mathlib.Omega.{arith}
use Rattle.values.proofs.Formed.{empty_not_formed}
use Rattle.words.proofs.There.{not_there, formed_there}
use Rattle.words.proofs.formed_at.Goals as goal

pub returns-then-w-at : goal.returns-then-w-at
returns-then-w-at c = sym (rw (not_there c.args.w.now c.args.at c.if-w-at.true, empty_not_formed))

pub returns : goal.returns
returns c =
    let a = c.args in
    let sixteen : (a.at + 17) - (a.at + 1) ≡ 16 = omega arith in
    formed_there a.w.now a.at c.if-w-at.false c.known-p.ensures.0
    c.count_at.ensures.0 c.bound_at.ensures (rw sixteen at c.lanes_formed.ensures)
