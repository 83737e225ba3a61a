-- `norm::size_up` meets its contract: it is one more than the size rounded down, where that is below the float. Assumes nothing.
use mathlib.Core.Path.{◌≡◌, subst}
use mathlib.Core.Bool.{true, false}
use Prim.Native.Nat.{ℕ, ◌≤◌}
use lib.Ieee.{Float, lt}
use Rattle.norm.proofs.Sizes.{Up, up_one, up_capped}
use Rattle.norm.proofs.size_up.Goals as goal
use Rattle.norm.proofs.size_up.Goals.{After-whole}

next : (c : After-whole) → Up c.args.v c.size_down-t.result
next c =
    up_one c.args.v c.size_down-t.result c.requires.0 c.size_down-t.ensures c.if-t-lt65536.true

pub returns-then-whole-v : goal.returns-then-whole-v
returns-then-whole-v c = (next (goal.at.returns-then-whole-v c).After-whole).more (subst (λ (t : Float). lt t c.args.v ≡ true) c.whole.ensures c.if-whole-v.true)

pub returns-else-whole-v : goal.returns-else-whole-v
returns-else-whole-v c = (next (goal.at.returns-else-whole-v c).After-whole).none (subst (λ (t : Float). lt t c.args.v ≡ false) c.whole.ensures c.if-whole-v.false)

pub returns-else-t-lt65536 : goal.returns-else-t-lt65536
returns-else-t-lt65536 c =
    up_capped c.args.v c.requires.0 (subst (λ (n : ℕ). 65536 ≤ n) c.size_down-t.ensures c.if-t-lt65536.false)
