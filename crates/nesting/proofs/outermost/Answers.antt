-- The line's number by its head (Steps). Assumes nothing.
use Rattle.std.proofs.Common.{ap, ◌∙◌, length}
use Rattle.nesting.specs.Program.{judged_of}
use Rattle.nesting.proofs.Steps.{head_room, line_given}
use Rattle.nesting.proofs.outermost.Goals as goal

pub call-requires : goal.call-requires
call-requires c = (head_room _ _ _ _ _ c.head_of.ensures (rw c.in-Call.is at c.in_ok-head_of.was)).1

pub returns-in_err-head_of : goal.returns-in_err-head_of
returns-in_err-head_of c = ap (λ t. judged_of t (length c.args.line.now)) c.from_residual.ensures ∙ line_given _ _ _ c.head_of.ensures c.in_err-head_of.was

pub returns-in-Spelling : goal.returns-in-Spelling
returns-in-Spelling c = line_given _ _ _ c.head_of.ensures (rw c.in-Spelling.is at c.in_ok-head_of.was)

pub returns-in-Call : goal.returns-in-Call
returns-in-Call c =
    ap (λ t. judged_of t (length c.args.line.now)) c.call.ensures
    ∙ line_given _ _ _ c.head_of.ensures (rw c.in-Call.is at c.in_ok-head_of.was)
