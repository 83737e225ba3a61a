-- What the three tests say, and the test of the digits, all below 16. Assumes nothing.
use Prim.Native.Nat.{◌+◌, ◌-◌, ◌≤◌}
use mathlib.Core.Bool.{◌&&◌, false≢true}
use mathlib.Core.Path.{◌≡◌, sym, ◌∙◌}
use native.Mathlib.Omega.{arith}
use borrow.Author.Tests.{eqb-true, leb-true}
use lib.Dec.{leb, eqb}
use lib.ListN.{length}
use Rattle.values.proofs.Bools.{both}
use Rattle.faults.proofs.four_at.Goals as goal
use Rattle.faults.proofs.four_at.Goals.{Then-due-b}

asked : (c : Then-due-b) → let a = c.args in (4 ≤ a.due) × (a.b ≡ 16) × (a.i + 4 ≤ length a.s.now)
asked c =
    let a = c.args in
    let room = both (leb 4 a.due && eqb a.b 16) (leb 4 (length a.s.now - a.i)) c.if-due-b.true in
    let more = both (leb 4 a.due) (eqb a.b 16) room.0 in
    (leb-true 4 a.due more.0, eqb-true a.b 16 more.1, omega (arith, leb-true 4 (length a.s.now - a.i) room.1))

pub four_digits-requires : goal.four_digits-requires
four_digits-requires c = (asked c).2

pub returns-then-due-b : goal.returns-then-due-b
returns-then-due-b c = let q = asked (goal.at.returns-then-due-b c).Then-due-b in λ h. (q.0, q.2, rw q.1 (sym c.four_digits.ensures ∙ h))

pub returns-else-due-b : goal.returns-else-due-b
returns-else-due-b c = λ h. absurd (false≢true h)
