-- A refused call is told its refusal; of one that is not, the first value is written, and the empty one after it. Assumes nothing.
use mathlib.Core.Logic.{inl, inr}
use mathlib.Core.Path.{◌≡◌, refl, sym, ◌∙◌}
use borrow.Author.Tests.{eqb-false}
use Rattle.refusals.specs.Refusals.{number, told}
use Rattle.refusals.proofs.Refused.{told_some}
use Rattle.values.specs.Value.{well_formed}
use Rattle.values.proofs.Bools.{either}
use Rattle.words.specs.Words.{value_at}
use Rattle.calls.specs.Refuse.{refusal_of}
use Rattle.calls.specs.Words.{call_of}
use Rattle.calls.specs.Program.{FirstMatrix}
use Rattle.calls.proofs.Converse.{unformed}
use Rattle.builtins.specs.Fold.{fold_in}
use Rattle.builtins.proofs.Folded.{told_refused, told_short, told_one, told_answer}
use Rattle.builtins.proofs.Matrices.{OneValue, one_value}
use borrow.Author.Rules.{rules}
use Rattle.builtins.proofs.matrix.fold.Goals as goal
use Rattle.builtins.proofs.matrix.fold.Goals.{In_ok-judge}

-- once the call is judged
unrefused : (c : In_ok-judge) → refusal_of (call_of c.args.w.now) ≡ 0
unrefused c = sym c.in_ok-judge.ensures

-- the first value is then well formed
first : (c : In_ok-judge) → FirstMatrix c.args.w.now c.args.p
first c =
    let w = c.args.w.now in
    record {
      formed =
          elim (either (well_formed (value_at w 3))) [
            | inl t ↦ t
            | inr t ↦ absurd (eqb-false _ 0 (unformed w t) (unrefused c))
          ];
      type = c.requires.0;
      over = c.requires.1;
      within = c.requires.2;
    }

one : (c : In_ok-judge) → OneValue (fold_in c.args.reading (call_of c.args.w.now))
one c = one_value c.args.reading c.args.w.now c.args.p (first c) (unrefused c)

pub returns-in_err-judge : goal.returns-in_err-judge
returns-in_err-judge c =
    let a = c.args in
    let e = c.in_err-judge.ensures in
    let t = told_refused a.reading a.out.now a.w.now (λ z. told_some _ (e ∙ z)) in
    let same : told c.from_residual.result ≡ number c.in_err-judge.field-0.0 = search rules in
    (same ∙ e ∙ t.0, t.1)

pub returns-then-out-lt35 : goal.returns-then-out-lt35
returns-then-out-lt35 c = let a = c.args in told_answer a.reading a.out.now a.w.now refl (one (goal.at.returns-then-out-lt35 c).In_ok-judge).refusal (told_short (fold_in a.reading (call_of a.w.now)) a.out.now c.if-out-lt35.true)

pub put_first-requires : goal.put_first-requires
put_first-requires c = (first (goal.at.put_first-requires c).In_ok-judge, search rules, unrefused (goal.at.put_first-requires c).In_ok-judge)

pub returns : goal.returns
returns c =
    let a = c.args in
    let o = one (goal.at.returns c).In_ok-judge in
    told_answer a.reading a.out.now a.w.now refl o.refusal
    (told_one (fold_in a.reading (call_of a.w.now)) a.out.now c.if-out-lt35.false o.sixteen o.second o.loss c.put_first.ensures c.clear.ensures c.put_loss.ensures)
