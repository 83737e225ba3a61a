-- By the line's head; one that is no call would have been refused (Folds). Assumes nothing.
use Rattle.std.proofs.Common.{arith, refl, ◌∙◌}
use Rattle.nesting.proofs.Steps.{head_room}
use Rattle.nested.proofs.Folds.{line_bad, line_spelling, line_call}
use Rattle.nested.proofs.fold_whole.Goals as goal

pub fold_call-requires : goal.fold_call-requires
fold_call-requires c = let h = head_room _ _ _ _ _ c.head_of.ensures (rw c.in-Call.is at c.in_ok-head_of.was) in (h.1, omega arith)

pub returns-in_err-head_of : goal.returns-in_err-head_of
returns-in_err-head_of c = c.from_residual.ensures ∙ line_bad _ _ c.requires.1 _ c.head_of.ensures c.in_err-head_of.was

pub returns-in-Spelling : goal.returns-in-Spelling
returns-in-Spelling c = line_spelling _ _ c.requires.1 _ c.head_of.ensures _ (rw c.in-Spelling.is at c.in_ok-head_of.was)

pub outermost-requires : goal.outermost-requires
outermost-requires c = let h = head_room _ _ _ _ _ c.head_of.ensures (rw c.in-Call.is at c.in_ok-head_of.was) in omega (arith, h.1)

pub returns-in-Call : goal.returns-in-Call
returns-in-Call c =
    c.outermost.ensures ∙ line_call _ _ c.requires.1 _ c.head_of.ensures _ _ (rw c.in-Call.is at c.in_ok-head_of.was) _ _ c.fold_call.ensures refl
