-- The invariant: what is wrong with the line is what is wrong with the arguments behind the tab that is reached. Assumes nothing.
use Prim.Native.Nat.{ℕ, ◌-◌, ◌≤◌}
use mathlib.Core.Path.{ap, sym, ◌∙◌}
use native.Mathlib.Omega.{arith}
use borrow.Author.Rules.{rules}
use Rattle.buffers.proofs.FirstPlace.{place_le}
use Rattle.fields.proofs.Tabs.{field_length}
use Rattle.misspellings.proofs.Arguments.{rest_fault, all_arguments, no_more, wrong_here, right_here, length_behind, fault_most}
use Rattle.misspellings.proofs.line_fault.Goals as goal
use Rattle.misspellings.proofs.line_fault.Goals.{After-field_fault-m}

most_place : (c : After-field_fault-m) → c.field_fault-m.result.place ≤ 156
most_place c = rw c.field_fault-m.ensures (fault_most c.loop-tab.typed _)

pub loop-tab-init : goal.loop-tab-init
loop-tab-init c =
    let a = c.args in
    let e = c.requires.1 ∙ field_length a.line.now in
    (omega (arith, e, place_le 9 a.line.now), all_arguments a.cast a.line.now ∙ ap (λ (t : ℕ). rest_fault a.cast t a.line.now) (sym e))

pub in_line-requires : goal.in_line-requires
in_line-requires c =
    let most = most_place (goal.at.in_line-requires c).After-field_fault-m in
    (omega arith, omega arith)

pub returns-then-m-ne0 : goal.returns-then-m-ne0
returns-then-m-ne0 c =
    let l = c.loop-tab in
    c.in_line.ensures ∙ sym (l.invariant.1 ∙ wrong_here c.args.line.now l.tab c.find-n.result l.typed c.field_fault-m.result (search rules) c.find-n.ensures.0 c.field_fault-m.ensures c.if-m-ne0.true)

pub loop-tab-preserved : goal.loop-tab-preserved
loop-tab-preserved c =
    let line = c.args.line.now in
    let l = c.loop-tab in
    let n = c.find-n in
    (omega (arith, n.ensures.1, length_behind line l.tab), l.invariant.1 ∙ right_here line l.tab n.result l.typed c.field_fault-m.result (search rules) n.ensures.0 c.field_fault-m.ensures c.if-m-ne0.false)

pub returns : goal.returns
returns c =
    let l = c.loop-tab in
    c.misspelled.ensures ∙ sym (l.invariant.1 ∙ no_more l.typed l.tab c.args.line.now (omega arith))
