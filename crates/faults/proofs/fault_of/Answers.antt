-- A type without lanes is no type; else the lanes are gone through with the type's count and digits. Assumes nothing.
use Prim.Native.Nat.{◌-◌}
use mathlib.Core.Path.{refl, ap, sym, ◌∙◌}
use borrow.Author.Tests.{eq-eqb}
use Rattle.values.specs.Value.{kind_at}
use Rattle.spelling.specs.Read.{lanes_at, wrong, read_lanes}
use Rattle.faults.specs.Program.{told_of}
use Rattle.faults.proofs.Told.{fault_told}
use Rattle.spelling.proofs.Scan.{lanes_of_lem}
use Rattle.faults.proofs.fault_of.Goals as goal

pub returns-then-n-eq0 : goal.returns-then-n-eq0
unfolding read_lanes wrong
returns-then-n-eq0 c =
    let n = c.count_at-n.ensures.0 in
    c.fault_at.ensures ∙ rw (eq-eqb _ _ (sym n ∙ c.if-n-eq0.true))

pub returns : goal.returns
returns c =
    let a = c.args in
    let k = kind_at a.k in
    let l = lanes_at c.digit_bound.result c.digit_count.result (c.count_at-n.result - 1) c.digit_count.result a.p 0 a.s.now in
    c.lanes_fault.ensures ∙ fault_told k l
    ∙ ap told_of (lanes_of_lem k a.p a.s.now c.count_at-n.ensures.0 c.scalar_at-t.ensures c.digit_count.ensures.0 c.digit_bound.ensures.0 c.if-n-eq0.false refl)
