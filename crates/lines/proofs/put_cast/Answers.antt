-- The value is in the field past the type's (Tabs), and what is written of them is read so (`call_there`). Assumes nothing.
use mathlib.Core.Path.{refl, ap, ◌∙◌}
use lib.ListN.{length, take}
use Rattle.values.specs.Value.{kind_at, value, empty_value}
use Rattle.values.proofs.Places.{there}
use Rattle.calls.proofs.CallWords.{call_there}
use Rattle.spelling.specs.Read.{read_value}
use Rattle.spelling.proofs.WrittenSo.{read_lanes_lem}
use Rattle.lines.specs.Line.{cast_call}
use Rattle.fields.proofs.Tabs.{Off, tab_at, field_length, next_length, third}
use Rattle.lines.proofs.put_cast.Goals as goal

pub returns : goal.returns
unfolding cast_call value kind_at empty_value
returns c =
    let line = c.args.line.now in
    let t1 = c.after.result.now in
    let t2 = c.after-rest.result.now in
    let o : Off line (length c.field-name.result.now) t1 = (ap length c.field-name.ensures ∙ field_length line, c.after.ensures) in
    let p : Off t1 (length c.field-target.result.now) t2 = (ap length c.field-target.ensures ∙ next_length line _ t1 o, c.after-rest.ensures) in
    call_there (read_value (take (tab_at t2) t2)).value empty_value empty_value (read_lanes_lem _) refl refl c.args.w.now _ _ _ c.requires
    c.read_field.ensures.1 c.put_lanes.ensures c.put_lanes-2.ensures c.put_head.ensures
    ∙ rw (c.type_of.ensures.0, there, c.field-target.ensures, third line t1 t2 _ _ o p, c.argument_count.ensures)
