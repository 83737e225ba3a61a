-- A call of a matrix goes its own way; one whose first value is no type's, or not well formed, is refused; the others are what their arm works out, by `worked`, or are refused. Assumes nothing.
use Prim.Native.Nat.{◌≤◌}
use mathlib.Core.Bool.{Bool, false, ◌&&◌, and-true, false≢true}
use mathlib.Core.Logic.{inl, inr}
use mathlib.Core.Path.{◌≡◌, refl, sym, ◌∙◌}
use native.Mathlib.Omega.{arith}
use lib.Dec.{eqb}
use lib.ListN.{length}
use borrow.Author.Tests.{eqb-false, eq-eqb, not-true, not-false}
use Rattle.values.specs.declared.Value.{Value}
use Rattle.values.specs.Value.{place, well_formed}
use Rattle.values.proofs.Bools.{either}
use Rattle.values.proofs.Formed.{is_type_lem}
use Rattle.words.specs.Words.{value_at}
use Rattle.places.proofs.Tables.{typed}
use Rattle.calls.specs.Program.{First}
use Rattle.calls.proofs.Converse.{unformed}
use Rattle.builtins.proofs.AgreeWords.{Worked, worked}
use Rattle.words.proofs.There.{all_there}
use Rattle.builtins.proofs.Folded.{told_refused, told_answer}
use borrow.Author.Rules.{rules}
use Rattle.builtins.proofs.fold_in.Goals as goal
use Rattle.builtins.proofs.fold_in.Goals.{After-arm-a, After-formed_as, Else-not-formed_as}

-- a value that has no type
no_type : (v : Value) → place v.kind ≡ 0 → well_formed v ≡ false
no_type v e =
    elim (either (well_formed v)) [
      | inl t ↦ absurd (false≢true (rw e at (typed v.kind ∙ is_type_lem v t)))
      | inr t ↦ t
    ]

-- a value of the type that is asked for
of_type : {t : Bool} (v : Value) → t ≡ well_formed v && eqb (place v.kind) (place v.kind) → t ≡ well_formed v
of_type v e = e ∙ rw (eq-eqb (place v.kind) (place v.kind) refl) (and-true (well_formed v))

-- the first value, tested
tested : (c : After-formed_as) → c.formed_as.result ≡ well_formed (value_at c.args.w.now 3)
tested c = of_type (value_at c.args.w.now 3) (rw c.place_at-p.ensures.0 at c.formed_as.ensures)

first : (c : Else-not-formed_as) → First c.args.w.now c.place_at-p.result
first c =
    record {
      formed = sym (of_type (value_at c.args.w.now 3) (rw c.place_at-p.ensures.0 at c.formed_as.ensures)) ∙ c.if-not-formed_as.false;
      type = c.place_at-p.ensures.0;
      known = let h = c.if-p-eq0.false in omega arith;
      within = c.if-p-gt-LAST_VECTOR.false;
    }

there : (c : Else-not-formed_as) → 20 ≤ length c.args.w.now
there c = all_there c.args.w.now 3 (first c).formed

worked_out : (c : After-arm-a) → First c.args.w.now c.place_at-p.result → Worked c.args.reading c.args.w.now c.arm-a.result
worked_out c f = worked c.args.reading c.args.w.now f c.builtin_at.ensures c.cut_at.ensures c.arm-a.ensures

pub returns-then-p-eq0 : goal.returns-then-p-eq0
returns-then-p-eq0 c =
    let a = c.args in
    let e = sym c.place_at-p.ensures.0 ∙ c.if-p-eq0.true in
    let t = told_refused a.reading a.out.now a.w.now (eqb-false _ 0 (unformed a.w.now (no_type (value_at a.w.now 3) e))) in
    (c.judge.ensures ∙ t.0, t.1)

pub returns-then-not-formed_as : goal.returns-then-not-formed_as
returns-then-not-formed_as c =
    let a = c.args in
    let t = told_refused a.reading a.out.now a.w.now (eqb-false _ 0 (unformed a.w.now (sym (tested (goal.at.returns-then-not-formed_as c).After-formed_as) ∙ c.if-not-formed_as.true))) in
    (c.judge-then-not-formed_as.ensures ∙ t.0, t.1)

pub bounds-w-0 : goal.bounds-w-0
bounds-w-0 c = let h = there (goal.at.bounds-w-0 c).Else-not-formed_as in search rules

pub arm-a-requires : goal.arm-a-requires
arm-a-requires c = let h = there (goal.at.arm-a-requires c).Else-not-formed_as in (omega arith, first (goal.at.arm-a-requires c).Else-not-formed_as)

pub returns-then-not-a : goal.returns-then-not-a
returns-then-not-a c =
    let a = c.args in
    let t = told_refused a.reading a.out.now a.w.now ((worked_out (goal.at.returns-then-not-a c).After-arm-a (first (goal.at.returns-then-not-a c).Else-not-formed_as)).refused c.if-not-a.true) in
    (c.judge-then-not-a.ensures ∙ t.0, t.1)

pub put_answer-requires : goal.put_answer-requires
put_answer-requires c = let h = (worked_out (goal.at.put_answer-requires c).After-arm-a (first (goal.at.put_answer-requires c).Else-not-formed_as)).places c.if-not-a.false in (h.first, h.second)

pub returns : goal.returns
returns c = let a = c.args in told_answer a.reading a.out.now a.w.now ((worked_out (goal.at.returns c).After-arm-a (first (goal.at.returns c).Else-not-formed_as)).answers c.if-not-a.false) refl c.put_answer.ensures
