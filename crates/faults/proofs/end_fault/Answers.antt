-- The three ways of a text to end. Assumes nothing.
use native.Mathlib.Omega.{arith}
use borrow.Author.Tests.{eq-eqb, ne_eqb}
use Rattle.faults.proofs.end_fault.Goals as goal

pub returns-then-due-gt0 : goal.returns-then-due-gt0
returns-then-due-gt0 c = rw (ne_eqb c.args.due 0 (λ e. omega arith)) c.fault_at.ensures

pub returns-then-left-gt0 : goal.returns-then-left-gt0
returns-then-left-gt0 c =
    let a = c.args in
    rw (eq-eqb a.due 0 (omega arith), ne_eqb a.left 0 (λ e. omega arith)) c.fault_at-then-left-gt0.ensures

pub returns : goal.returns
returns c =
    let a = c.args in
    rw (eq-eqb a.due 0 (omega arith), eq-eqb a.left 0 (omega arith)) c.fault_at-2.ensures
