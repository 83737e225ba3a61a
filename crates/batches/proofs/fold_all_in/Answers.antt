-- Too few results stay as they were found; else each turn's result is the single call's, and after the last all are done. Assumes nothing.
use Rattle.std.proofs.Common.{◌≡◌, length, arith, ◌∙◌, add-one}
use borrow.Author.Tests.{lt-ltb, le-ltb}
use Rattle.builtins.specs.Fold.{fold_in}
use Rattle.batches.proofs.Lists.{done_step, all_done, as_found}
use Rattle.batches.proofs.fold_all_in.Goals as goal

pub returns-then-results-calls : goal.returns-then-results-calls
returns-then-results-calls c =
    let a = c.args in
    let t = lt-ltb _ _ c.if-results-calls.true in
    (rw t, as_found a.reading a.calls.now a.results.now t)

pub loop-k-preserved : goal.loop-k-preserved
loop-k-preserved c =
    let a = c.args in
    let l = c.loop-k in
    (omega arith, l.invariant.1, rw (add-one, l.invariant.2, c.fold_in.ensures) (done_step (fold_in a.reading) a.calls.now a.results.now l.k _ (omega arith) l.invariant.1))

pub returns : goal.returns
returns c =
    let a = c.args in
    let l = c.loop-k in
    let e : l.k ≡ length a.calls.now = omega arith in
    (rw (le-ltb _ _ l.invariant.1), rw e at l.invariant.2 ∙ all_done a.reading a.calls.now a.results.now l.invariant.1)
