-- The scalars of the types of a length stand in one order, the matrices of a width together, as one test over the places computes for each scalar. Assumes nothing.
use Prim.Native.Nat.{◌+◌, ◌%◌}
use mathlib.Core.Bool.{◌&&◌}
use mathlib.Core.Path.{refl, sym, ◌∙◌}
use native.Mathlib.Omega.{arith}
use borrow.Author.Tests.{lt-ltb, le-leb}
use lib.Dec.{ltb, leb}
use Rattle.values.specs.Value.{scalar_of, scalar_place, kind_at}
use Rattle.values.proofs.Bools.{and}
use Rattle.places.proofs.Tables.{equal_where, scalar_placed, by_five, fifth}
use Rattle.values.proofs.Tested.{below}
use Rattle.places.proofs.scalar_at.Goals as goal

pub returns-then-p-eq0 : goal.returns-then-p-eq0
unfolding kind_at below
returns-then-p-eq0 c = rw c.if-p-eq0.true

pub returns-then-p-gt29 : goal.returns-then-p-gt29
unfolding kind_at below
returns-then-p-gt29 c = let p = c.args.p in scalar_placed (equal_where (λ q. ltb 29 q) (λ q. 4) (λ q. scalar_place (scalar_of (kind_at q))) refl p c.requires (lt-ltb 29 p c.if-p-gt29.true))

pub returns-then-p-gt20 : goal.returns-then-p-gt20
unfolding kind_at below
returns-then-p-gt20 c = let p = c.args.p in scalar_placed (equal_where (λ q. ltb 20 q && leb q 29) (λ q. 3) (λ q. scalar_place (scalar_of (kind_at q))) refl p c.requires (and (lt-ltb 20 p c.if-p-gt20.true) (le-leb p 29 c.if-p-gt29.false)))

pub returns-in-0 : goal.returns-in-0
returns-in-0 c =
    scalar_placed (sym c.in-0.is ∙ by_five c.args.p c.requires c.if-p-eq0.false c.if-p-gt20.false)

pub returns-in-1 : goal.returns-in-1
returns-in-1 c =
    scalar_placed (sym c.in-1.is ∙ by_five c.args.p c.requires c.if-p-eq0.false c.if-p-gt20.false)

pub returns-in-2 : goal.returns-in-2
returns-in-2 c =
    scalar_placed (sym c.in-2.is ∙ by_five c.args.p c.requires c.if-p-eq0.false c.if-p-gt20.false)

pub returns-in-3 : goal.returns-in-3
returns-in-3 c =
    scalar_placed (sym c.in-3.is ∙ by_five c.args.p c.requires c.if-p-eq0.false c.if-p-gt20.false)

pub returns-in_default : goal.returns-in_default
returns-in_default c =
    let r = c.in_default.in_default-own.rest in
    let e = by_five c.args.p c.requires c.if-p-eq0.false c.if-p-gt20.false in
    scalar_placed (fifth ((c.args.p + 4) % 5) (omega arith) r.0.0.0.1 r.0.0.1 r.0.1 r.1 ∙ e)
