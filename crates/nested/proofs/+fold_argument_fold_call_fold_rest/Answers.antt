-- The steps are those of Folds. Assumes nothing.
use Rattle.std.proofs.Common.{arith, refl, sym, ◌∙◌}
use Rattle.nesting.proofs.Words.{mark_room}
use Rattle.nesting.proofs.Steps.{head_room}
use Rattle.nested.proofs.Folds.{argument_given, argument_called, call_given, ends, rest_closed, rest_more, rest_wrong, counted}
use Rattle.nested.proofs.+fold_argument_fold_call_fold_rest.Goals as goal

pub fold_argument-spelled_at-requires : goal.fold_argument-spelled_at-requires
fold_argument-spelled_at-requires t c =
    let h = head_room _ _ _ _ _ c.head_of.ensures (rw c.in-Spelling.is at c.in_ok-e.was) in
    (h.0, h.1, omega arith)

pub fold_argument-fold_call-requires : goal.fold_argument-fold_call-requires
fold_argument-fold_call-requires t c =
    let h = head_room _ _ _ _ _ c.head_of.ensures (rw c.in-Call.is at c.in_ok-e.was) in
    (omega (arith, h.1), (h.1, omega arith))

pub fold_argument-returns-in_err-e : goal.fold_argument-returns-in_err-e
fold_argument-returns-in_err-e t c = c.from_residual.ensures ∙ argument_given _ _ _ _ _ _ c.head_of.ensures c.in_err-e.was

pub fold_argument-returns-in-Spelling : goal.fold_argument-returns-in-Spelling
fold_argument-returns-in-Spelling t c =
    rw c.spelled_at.ensures (argument_given _ _ _ _ _ _ c.head_of.ensures (rw c.in-Spelling.is at c.in_ok-e.was))

pub fold_argument-called_at-requires : goal.fold_argument-called_at-requires
fold_argument-called_at-requires t c =
    let h = head_room _ _ _ _ _ c.head_of.ensures (rw c.in-Call.is at c.in_ok-e.was) in
    (h.0, h.1)

pub fold_argument-returns-in-Call : goal.fold_argument-returns-in-Call
fold_argument-returns-in-Call t c =
    c.called_at.ensures ∙ argument_called _ _ _ _ _ _ _ c.head_of.ensures (rw c.in-Call.is at c.in_ok-e.was) _ _ c.fold_call.ensures refl

pub fold_call-fold_rest-requires : goal.fold_call-fold_rest-requires
fold_call-fold_rest-requires t c =
    let h = ends _ _ _ _ _ _ c.fold_argument.ensures c.in_ok-x.was in
    (omega arith, omega arith)

pub fold_call-returns-in_err-x : goal.fold_call-returns-in_err-x
fold_call-returns-in_err-x t c = c.from_residual.ensures ∙ call_given _ _ _ _ _ _ c.fold_argument.ensures c.in_err-x.was

pub fold_call-returns : goal.fold_call-returns
fold_call-returns t c = c.fold_rest.ensures ∙ call_given _ _ _ _ _ _ c.fold_argument.ensures c.in_ok-x.was

pub fold_rest-returns-then-mark-eq41 : goal.fold_rest-returns-then-mark-eq41
fold_rest-returns-then-mark-eq41 t c = rw c.alone_of.ensures (rest_closed _ _ _ _ _ c.byte_at-mark.ensures c.if-mark-eq41.true)

pub fold_rest-fold_call-requires : goal.fold_rest-fold_call-requires
fold_rest-fold_call-requires t c =
    let h = mark_room c.args.s.now c.args.x.end _ (sym c.byte_at-mark.ensures) (omega arith) in
    (omega arith, (h, omega arith))

pub fold_rest-with_first-requires : goal.fold_rest-with_first-requires
fold_rest-with_first-requires t c =
    let h = mark_room c.args.s.now c.args.x.end _ (sym c.byte_at-mark.ensures) (omega arith) in
    let n = counted _ _ _ _ _ _ c.fold_call.ensures c.in_ok-others.was h in
    omega arith

pub fold_rest-returns-in_err-others : goal.fold_rest-returns-in_err-others
fold_rest-returns-in_err-others t c =
    c.from_residual.ensures ∙ rest_more _ _ _ _ _ c.byte_at-mark.ensures c.if-mark-eq41.false c.if-mark-eq59.true _ _ c.fold_call.ensures c.in_err-others.was

pub fold_rest-returns-then-mark-eq59 : goal.fold_rest-returns-then-mark-eq59
fold_rest-returns-then-mark-eq59 t c =
    rw c.with_first.ensures (rest_more _ _ _ _ _ c.byte_at-mark.ensures c.if-mark-eq41.false c.if-mark-eq59.true _ _ c.fold_call.ensures c.in_ok-others.was)

pub fold_rest-returns : goal.fold_rest-returns
fold_rest-returns t c = rest_wrong _ _ _ _ _ c.byte_at-mark.ensures c.if-mark-eq41.false c.if-mark-eq59.false
