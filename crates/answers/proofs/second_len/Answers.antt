-- There is a second value where the place is a type's. Assumes nothing.
use Prim.Native.Nat.{ℕ, ◌+◌}
use mathlib.Core.Path.{ap}
use native.Mathlib.Omega.{arith}
use borrow.Author.Tests.{ne_eqb}
use Rattle.values.specs.Value.{kind_at}
use Rattle.places.proofs.Tables.{own_place, typed}
use Rattle.answers.specs.Program.{second_length}
use Rattle.answers.proofs.second_len.Goals as goal

pub returns-then-p-eq0 : goal.returns-then-p-eq0
unfolding second_length kind_at
returns-then-p-eq0 c = (rw c.if-p-eq0.true, omega arith)

pub returns-else-p-eq0 : goal.returns-else-p-eq0
unfolding second_length
returns-else-p-eq0 c =
    let p = c.args.p in
    let own = own_place p c.requires in
    (rw (← (typed (kind_at p)), own, ne_eqb p 0 c.if-p-eq0.false) (ap (λ (n : ℕ). n + 1) c.text_len.ensures.0), omega arith)
