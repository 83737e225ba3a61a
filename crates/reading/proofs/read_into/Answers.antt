-- By the three cases of `IntoWords`. Assumes nothing.
use mathlib.Core.Path.{ap, ◌∙◌}
use Rattle.spelling.specs.Read.{fault_number}
use Rattle.reading.proofs.IntoWords.{faulty, too_short, read}
use Rattle.reading.proofs.read_into.Goals as goal

pub returns-then-refusal-ne0 : goal.returns-then-refusal-ne0
returns-then-refusal-ne0 c =
    let e = c.read_value-a.ensures in
    let n = c.fault_number-refusal.ensures ∙ ap (λ r. fault_number r.fault) e in
    rw e (faulty c.args.out.now c.args.text.now n c.if-refusal-ne0.true)

pub returns-then-out-lt17 : goal.returns-then-out-lt17
returns-then-out-lt17 c =
    let e = c.read_value-a.ensures in
    let n = c.fault_number-refusal.ensures ∙ ap (λ r. fault_number r.fault) e in
    rw e (too_short c.args.out.now c.args.text.now n c.if-refusal-ne0.false c.if-out-lt17.true)

pub returns : goal.returns
returns c =
    let e = c.read_value-a.ensures in
    let n = c.fault_number-refusal.ensures ∙ ap (λ r. fault_number r.fault) e in
    rw e (read c.args.out.now c.args.text.now n c.if-refusal-ne0.false c.if-out-lt17.false (rw e at c.put_value.ensures))
