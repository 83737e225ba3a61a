-- What the arm of a call of words works out: it passes just where nothing refuses the call, and is then the call's answer, by `agree`. Assumes nothing.
use Prim.Native.Nat.{ℕ}
use mathlib.Core.Bool.{true, false, not}
use mathlib.Core.List.{List}
use mathlib.Core.Path.{◌≡◌, ap, sym, ◌∙◌}
use borrow.Author.Tests.{eqb-true, eqb-false, not-true, not-false}
use lib.Dec.{eqb}
use lib.ListN.{get_or}
use Rattle.readings.specs.declared.Reading.{Reading}
use Rattle.words.specs.Words.{value_at}
use Rattle.calls.specs.declared.Builtin.{Builtin}
use Rattle.calls.specs.Table.{takes, builtin_at}
use Rattle.calls.specs.Refuse.{refusal_of}
use Rattle.calls.specs.Words.{call_of}
use Rattle.calls.specs.Program.{shape_of, types_of, judged_in, First}
use Rattle.calls.proofs.Converse.{told}
use Rattle.arms.specs.declared.Outcome.{Outcome}
use Rattle.builtins.specs.Fold.{fold_in}
use Rattle.arms.specs.Program.{cut_of, outcome}
use Rattle.builtins.specs.Program.{answer_in}
use Rattle.builtins.proofs.Agree.{agree}
use Rattle.builtins.proofs.Called.{passed, folded}
use Rattle.words.proofs.There.{lanes_16}
use Rattle.calls.proofs.Firsts.{first_lanes}
use Rattle.builtins.proofs.Outcomes.{Within, passes_as_lem, within}

-- of a call w, what an arm worked out in a reading
pub record Worked (R : Reading) (w : List ℕ) (r : Outcome) : Type 0 where
  pub refused : not r.passes ≡ true → refusal_of (call_of w) ≡ 0 → ⊥
  pub places : not r.passes ≡ false → Within r
  pub answers : not r.passes ≡ false → answer_in r ≡ fold_in R (call_of w)

module _ (R : Reading) (w : List ℕ) {p : ℕ} (f : First w p) {which : Builtin} {x : List ℕ} {r : Outcome} (eb : which ≡ builtin_at (get_or w 0 0)) (ex : x ≡ cut_of (value_at w 3))
    (er : r ≡ outcome R which (eqb (judged_in (shape_of (takes which)) (types_of (takes which)) (get_or w 1 0) w) 0) (get_or w 2 0) p x (value_at w 20) (value_at w 37)) where
  passes_is : r.passes ≡ eqb (refusal_of (call_of w)) 0
  passes_is = ap (λ (o : Outcome). o.passes) er ∙ passes_as_lem R _ (get_or w 2 0) p x (value_at w 20) (value_at w 37) which ∙ ap (λ (n : ℕ). eqb n 0) (told w which (sym eb))

  unrefused : not r.passes ≡ false → refusal_of (call_of w) ≡ 0
  unrefused t = eqb-true (refusal_of (call_of w)) 0 (sym passes_is ∙ not-false r.passes t)

  places : refusal_of (call_of w) ≡ 0 → Within r
  places z = rw er (within R _ (get_or w 2 0) p x (value_at w 20) (value_at w 37) (get_or w 1 0) (value_at w 3) f.within which (passed w z which (sym eb)))

  answers : refusal_of (call_of w) ≡ 0 → answer_in r ≡ fold_in R (call_of w)
  answers z =
      let e = sym eb in
      rw (er, ex, f.type)
      (agree R _ (get_or w 1 0) (get_or w 2 0) (value_at w 3) (value_at w 20) (value_at w 37) (lanes_16 w 3) (lanes_16 w 20) (lanes_16 w 37) (first_lanes f) which (passed w z which e)
      ∙ sym (folded w z which e R))

  pub worked : Worked R w r
  worked =
      record {
        refused = λ t. eqb-false (refusal_of (call_of w)) 0 (sym passes_is ∙ not-true r.passes t);
        places = λ t. places (unrefused t);
        answers = λ t. answers (unrefused t);
      }
