-- A turn is a step, and a read where the step asks for one: it holds little then, so that there is room. Assumes nothing.
use Rattle.std.proofs.Common.{arith, ◌∙◌}
use Rattle.std.proofs.lemmas.Result.{IfOk-weaker}
use Rattle.stream.specs.Stream.{step_lines}
use Rattle.inputs.proofs.Steps.{room_to_read}
use Rattle.pumping.proofs.Written.{on_ok, gone_read, got_read, text_written, kept_last}
use Rattle.pumping.proofs.turn.Goals as goal

pub refill-requires : goal.refill-requires
refill-requires g c =
    let a = c.args in
    let e = c.step-r.ensures in
    (e.3, omega (arith, room_to_read a.reading a.buf.now a.h e.0 c.if-r.true))

pub returns-then-r-clause-ok : goal.returns-then-r-clause-ok
returns-then-r-clause-ok g c =
    let a = c.args in
    let e = c.step-r.ensures in
    IfOk-weaker c.refill.result _ _ (λ r p. got_read a.reading step_lines a.buf.now a.h _ _ e.1 e.0 c.if-r.true p) c.refill.ensures.bytes

pub returns-then-r-clause-written : goal.returns-then-r-clause-written
returns-then-r-clause-written g c =
    let a = c.args in
    let e = c.step-r.ensures in
    on_ok c.refill.result (rw (text_written a.reading step_lines a.buf.now a.h a.out.now e.0 e.2) at c.in_ok-print.ensures)

pub returns-clause-ok : goal.returns-clause-ok
returns-clause-ok g c =
    let a = c.args in
    let e = c.step-r.ensures in
    gone_read a.reading step_lines a.buf.now a.h _ e.1 e.0 c.if-r.false

pub returns-clause-written : goal.returns-clause-written
returns-clause-written g c =
    let a = c.args in
    let e = c.step-r.ensures in
    rw (text_written a.reading step_lines a.buf.now a.h a.out.now e.0 e.2) at c.in_ok-print.ensures

pub returns-clause-end : goal.returns-clause-end
returns-clause-end g c =
    let a = c.args in
    λ end l. end (kept_last a.reading step_lines a.buf.now a.h c.step-r.ensures.0 ∙ l)
