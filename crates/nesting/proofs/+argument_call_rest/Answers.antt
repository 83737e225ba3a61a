-- Each step is the reader's own (Steps). Assumes nothing.
use Rattle.std.proofs.Common.{arith, sym, ◌∙◌}
use Rattle.nesting.proofs.Words.{mark_room}
use Rattle.nesting.proofs.Steps.{head_room, argument_given, call_given, argument_ends, rest_closed, rest_more, rest_wrong}
use Rattle.nesting.proofs.+argument_call_rest.Goals as goal

pub argument-call-requires : goal.argument-call-requires
argument-call-requires t c =
    let h = head_room _ _ _ _ _ c.head_of.ensures (rw c.in-Call.is at c.in_ok-e.was) in
    (omega (arith, h.1), h.1)

pub argument-returns-in_err-e : goal.argument-returns-in_err-e
argument-returns-in_err-e t c = c.from_residual.ensures ∙ argument_given _ _ _ _ _ c.head_of.ensures c.in_err-e.was

pub argument-returns-in-Spelling : goal.argument-returns-in-Spelling
argument-returns-in-Spelling t c = argument_given _ _ _ _ _ c.head_of.ensures (rw c.in-Spelling.is at c.in_ok-e.was)

pub argument-returns-in-Call : goal.argument-returns-in-Call
argument-returns-in-Call t c = c.call.ensures ∙ argument_given _ _ _ _ _ c.head_of.ensures (rw c.in-Call.is at c.in_ok-e.was)

pub call-argument-requires : goal.call-argument-requires
call-argument-requires t c = (omega arith, omega arith)

pub call-rest-requires : goal.call-rest-requires
call-rest-requires t c =
    let h = argument_ends _ _ _ _ _ (sym c.argument.ensures ∙ c.in_ok-argument.was) in
    (omega (arith, h.0), h.1)

pub call-returns-in_err-argument : goal.call-returns-in_err-argument
call-returns-in_err-argument t c = c.from_residual.ensures ∙ call_given _ _ _ _ _ c.argument.ensures c.in_err-argument.was

pub call-returns : goal.call-returns
call-returns t c = c.rest.ensures ∙ call_given _ _ _ _ _ c.argument.ensures c.in_ok-argument.was

pub rest-returns-then-mark-eq-CLOSING : goal.rest-returns-then-mark-eq-CLOSING
rest-returns-then-mark-eq-CLOSING t c = rest_closed _ _ _ _ c.byte_at-mark.ensures c.if-mark-eq-CLOSING.true

pub rest-call-requires : goal.rest-call-requires
rest-call-requires t c =
    let h = mark_room c.args.s.now c.args.given.end _ (sym c.byte_at-mark.ensures) (omega arith) in
    (omega (arith, h), h)

pub rest-returns-in_err-others : goal.rest-returns-in_err-others
rest-returns-in_err-others t c =
    c.from_residual.ensures ∙ rest_more _ _ _ _ c.byte_at-mark.ensures c.if-mark-eq-CLOSING.false c.if-mark-eq-PARTING.true _ _ c.call.ensures c.in_err-others.was

pub rest-returns-then-mark-eq-PARTING : goal.rest-returns-then-mark-eq-PARTING
rest-returns-then-mark-eq-PARTING t c =
    rw c.max.ensures (rest_more _ _ _ _ c.byte_at-mark.ensures c.if-mark-eq-CLOSING.false c.if-mark-eq-PARTING.true _ _ c.call.ensures c.in_ok-others.was)

pub rest-returns : goal.rest-returns
rest-returns t c = rest_wrong _ _ _ _ c.byte_at-mark.ensures c.if-mark-eq-CLOSING.false c.if-mark-eq-PARTING.false
