-- Turn follows turn, and what each does to the input and the output follows what those before it did. Assumes nothing.
use Rattle.std.proofs.Common.{suc, inl, inr, refl, arith, ⊎_elim}
use Rattle.std.proofs.KnownBytes.{Consumes-nil, Consumes-trans, Appends-nil, Appends-trans}
use Rattle.stream.specs.Stream.{step_lines, text_of}
use Rattle.inputs.specs.Turns.{begins, follows, turn_read, all_read, all_text, Pumped}
use Rattle.inputs.proofs.Steps.{not_both}
use Rattle.inputs.proofs.Turned.{pumped_prints}
use Rattle.pumping.proofs.Done.{counted, turns_done}
use Rattle.pumping.proofs.pump.Goals as goal

pub loop-turns-init : goal.loop-turns-init
unfolding all_read all_text
loop-turns-init g c = rw c.start-h.ensures (0, begins, inl refl, Consumes-nil _, Appends-nil _, λ z. absurd (not_both z))

pub loop-turns-preserved : goal.loop-turns-preserved
unfolding all_read all_text
loop-turns-preserved g c =
    let l = c.loop-turns in
    let i = l.invariant in
    let e = c.in_ok-h.ensures in (
      suc i.0,
      follows i.1 e.ok.0,
      counted c.in_ok-h.h.done i.0 (omega arith) c.turns_left-turns.ensures.1 i.2,
      Consumes-trans _ _ _ (all_read i.1) (turn_read e.ok.0) i.3 e.ok.1,
      Appends-trans _ _ _ (all_text i.1) (text_of c.args.reading step_lines l.buf l.h) i.4 e.written,
      e.end i.5,
    )

pub returns-clause-piped : goal.returns-clause-piped
returns-clause-piped g c =
    let l = c.loop-turns in
    let i = l.invariant in
    let p : Pumped c.args.reading c.args.buf.now l.buf =
    record { count = i.0; held = l.h; turns = i.1; until = ⊎_elim (λ w. inr (omega (arith, w, c.loop-turns-test.false))) (λ w. inl w.0) i.2 } in
    record { pumped = p; reads = i.3; writes = i.4; ends = λ d. i.5 (turns_done (omega arith) i.1 d); prints = pumped_prints p }
