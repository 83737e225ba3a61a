-- Each field is the first of what is left of the line, and the tabs that end them with those that follow are all its tabs (`apart`); what is written of them is read so (`call_there`). Assumes nothing.
use Prim.Native.Nat.{ℕ, ◌+◌}
use mathlib.Core.Path.{ap, ◌∙◌}
use native.Mathlib.Omega.{arith}
use mathlib.Core.List.{List}
use lib.ListN.{length, take}
use Rattle.values.specs.declared.Value.{Value}
use Rattle.values.specs.Value.{kind_at}
use Rattle.calls.proofs.CallWords.{call_there}
use Rattle.spelling.specs.Read.{read_value}
use Rattle.spelling.proofs.WrittenSo.{read_lanes_lem}
use Rattle.lines.specs.Line.{plain_call}
use Rattle.fields.proofs.Tabs.{Apart, tab_at, apart, count_most, field_length}
use Rattle.lines.proofs.put_plain.Goals as goal
use Rattle.lines.proofs.put_plain.Goals.{After-argument_count}

-- what is known once all fields are taken off and the tabs counted
taken_apart : (c : After-argument_count)
    → Apart c.args.line.now c.after-t1.result.now c.after-t2.result.now c.after-t3.result.now
    (c.one_if.result + c.one_if-2.result + c.one_if-3.result + c.one_if-4.result + c.argument_count.result)
taken_apart c =
    apart _ _ _ _ _ _ _ _ _
    (ap length c.requires.1 ∙ field_length _, c.after-t1.ensures) (c.read_field-n1.ensures.0, c.after-t2.ensures)
    (c.read_field-n2.ensures.0, c.after-t3.ensures) (c.read_field-n3.ensures.0, c.after-t4.ensures)
    _ _ _ _ _ c.one_if.ensures.0 c.one_if-2.ensures.0 c.one_if-3.ensures.0 c.one_if-4.ensures.0 c.argument_count.ensures

pub overflow_add-count-4 : goal.overflow_add-count-4
overflow_add-count-4 c = omega (arith, c.well_formed, (taken_apart c).tabs, count_most c.args.line.now)

pub put_head-requires : goal.put_head-requires
put_head-requires c =
    omega (arith, c.read_field-n3.auto.w, c.read_field-n2.auto.w, c.read_field-n1.auto.w, c.requires.0)

pub returns : goal.returns
unfolding plain_call kind_at
returns c =
    let a = taken_apart (goal.at.returns c).After-argument_count in
    let v : List ℕ → Value = λ t. (read_value (take (tab_at t) t)).value in
    call_there (v c.after-t1.result.now) (v c.after-t2.result.now) (v c.after-t3.result.now) (read_lanes_lem _) (read_lanes_lem _) (read_lanes_lem _)
    c.args.w.now _ _ _ c.requires.0 c.read_field-n1.ensures.1 c.read_field-n2.ensures.1 c.read_field-n3.ensures.1 c.put_head.ensures
    ∙ rw (a.field_1, a.field_2, a.field_3, a.tabs)
