-- The invariant: the fault of the whole is that of what is left from i on; each way out of a turn is one step of the definition. Assumes nothing.
use Prim.Native.Nat.{◌+◌, ◌-◌}
use mathlib.Core.Path.{ap, sym, ◌∙◌}
use native.Mathlib.Nat.{add-zero}
use native.Mathlib.Omega.{arith}
use borrow.Author.Rules.{rules}
use lib.ListN.{drop}
use Rattle.spelling.specs.Read.{lanes_at}
use Rattle.faults.specs.Program.{fault_of}
use Rattle.faults.proofs.Told.{fault_before, fault_end}
use Rattle.spelling.proofs.Scan.{lane_long, lane_surplus, lane_next, digit_wrong, digit_next, digits_some, lanes_end}
use Rattle.faults.proofs.lanes_fault.Goals as goal

pub loop-i-init : goal.loop-i-init
loop-i-init c = (search rules, (0, rw add-zero))

pub overflow_sub-due : goal.overflow_sub-due
overflow_sub-due c = omega (arith, (c.four_at.ensures c.if-four_at.true).0)

pub loop-i-smaller-then-four_at : goal.loop-i-smaller-then-four_at
loop-i-smaller-then-four_at c = omega (arith, (c.four_at.ensures c.if-four_at.true).1)

pub loop-i-preserved-then-four_at : goal.loop-i-preserved-then-four_at
loop-i-preserved-then-four_at c =
    let a = c.args in
    let l = c.loop-i in
    let f = c.four_at.ensures c.if-four_at.true in
    (f.1, (_, l.invariant.1.1 ∙ ap fault_of (digits_some a.b a.w l.left l.due a.p l.invariant.1.0 a.s.now l.i 4 f.0 f.1 f.2)))

pub returns-then-x-ne44 : goal.returns-then-x-ne44
returns-then-x-ne44 c =
    let a = c.args in
    let l = c.loop-i in
    c.fault_at.ensures ∙ sym (l.invariant.1.1 ∙ ap fault_of (lane_long a.b a.w l.left l.due a.p l.invariant.1.0 a.s.now l.i (search rules) c.if-due-eq0.true c.if-x-ne44.true))

pub returns-then-left-eq0 : goal.returns-then-left-eq0
returns-then-left-eq0 c =
    let a = c.args in
    let l = c.loop-i in
    c.fault_at-then-left-eq0.ensures ∙ sym (l.invariant.1.1 ∙ ap fault_of (lane_surplus a.b a.w l.left l.due a.p l.invariant.1.0 a.s.now l.i (search rules) c.if-due-eq0.true c.if-x-ne44.false c.if-left-eq0.true))

pub loop-i-preserved-then-due-eq0 : goal.loop-i-preserved-then-due-eq0
loop-i-preserved-then-due-eq0 c =
    let a = c.args in
    let l = c.loop-i in
    (search rules, (0, l.invariant.1.1 ∙ ap fault_of (lane_next a.b a.w l.left l.due a.p l.invariant.1.0 a.s.now l.i (search rules) c.if-due-eq0.true c.if-x-ne44.false c.if-left-eq0.false) ∙ fault_before l.invariant.1.0 (lanes_at a.b a.w (l.left - 1) a.w (a.p + (l.i + 1)) 0 (drop (l.i + 1) a.s.now))))

pub returns-then-b-digit : goal.returns-then-b-digit
returns-then-b-digit c =
    let a = c.args in
    let l = c.loop-i in
    c.fault_at-then-b-digit.ensures ∙ sym (l.invariant.1.1 ∙ ap fault_of (digit_wrong a.b a.w l.left l.due a.p l.invariant.1.0 a.s.now l.i (search rules) c.if-due-eq0.false (omega arith)))

pub loop-i-preserved : goal.loop-i-preserved
loop-i-preserved c =
    let a = c.args in
    let l = c.loop-i in
    (search rules, (_, l.invariant.1.1 ∙ ap fault_of (digit_next a.b a.w l.left l.due a.p l.invariant.1.0 a.s.now l.i (search rules) c.if-due-eq0.false c.digit.result c.digit.ensures.0 (omega arith))))

pub returns : goal.returns
returns c =
    let a = c.args in
    let l = c.loop-i in
    c.end_fault.ensures
    ∙ sym (l.invariant.1.1 ∙ ap fault_of (lanes_end a.b a.w l.left l.due a.p l.invariant.1.0 a.s.now l.i (omega arith)) ∙ fault_end l.left l.due (a.p + l.i) l.invariant.1.0)
