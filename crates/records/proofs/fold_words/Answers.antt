-- What is read of the answer's words is the answer, by `answer_read`. Assumes nothing.
use mathlib.Core.Path.{ap, ◌∙◌}
use native.Mathlib.Omega.{arith}
use lib.ListN.{length}
use Rattle.builtins.specs.Fold.{fold_in}
use Rattle.records.proofs.Read.{loss_few, answer_read}
use Rattle.records.proofs.fold_words.Goals as goal

pub loss_in-requires : goal.loss_in-requires
loss_in-requires c =
    let w = c.put_call.new.w in
    (omega (arith, ap length c.requires.1, c.out-1.given), loss_few c.args.reading w (rw c.requires.1 at c.fold_in-refused.ensures.1))

pub returns : goal.returns
returns c =
    let f = c.fold_in-refused in
    let call = c.put_call in
    answer_read c.args.reading call.new.w (rw c.requires.1 at f.ensures.1) (c.told.ensures ∙ rw c.requires.1 at f.ensures.0) c.value_at.ensures c.value_at-2.ensures c.loss_in.ensures
    ∙ ap (fold_in c.args.reading) call.ensures
