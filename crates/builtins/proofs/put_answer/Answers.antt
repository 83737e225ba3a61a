-- Where there is no room nothing is written; where there is, the two values are written one after the other, and the loss. Assumes nothing.
use mathlib.Core.Path.{◌≡◌}
use lib.ListN.{length}
use Rattle.words.proofs.Kept.{first_length}
use Rattle.builtins.specs.Program.{answer_in}
use Rattle.builtins.proofs.Folded.{told_short, told_written}
use borrow.Author.Rules.{rules}
use Rattle.builtins.proofs.put_answer.Goals as goal

pub returns-then-out-lt35 : goal.returns-then-out-lt35
returns-then-out-lt35 c = told_short (answer_in c.args.a) c.args.out.now c.if-out-lt35.true

pub returns : goal.returns
returns c =
    let s = c.args in
    let a = s.a in
    let lanes : length a.lanes ≡ 4 = search rules in
    let exponents : length a.exponents ≡ 4 = search rules in
    told_written (answer_in a) s.out.now c.if-out-lt35.false (first_length a.first a.lanes lanes) (first_length a.second a.exponents exponents) c.put_lanes.ensures c.put_second.ensures c.put_loss.ensures
