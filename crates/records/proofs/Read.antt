-- The words of an answer are read as its two values and its loss, by `answer_words_lem` and `answer_loss`; where the call is refused nothing is written over the zeros, which are two empty values and no loss. Assumes nothing.
use Prim.Native.Nat.{ℕ, ◌≤◌}
use mathlib.Core.Bool.{false}
use mathlib.Core.List.{List, []}
use mathlib.Core.Logic.{⊎_elim, inl, inr}
use mathlib.Core.Path.{◌≡◌, refl, ap, sym, ◌∙◌}
use native.Mathlib.Omega.{arith}
use borrow.Author.Tests.{eqb-true}
use lib.Dec.{eqb}
use lib.ListN.{replicate, get_or}
use Rattle.readings.specs.declared.Reading.{Reading}
use Rattle.values.specs.declared.Value.{Value}
use Rattle.values.specs.Value.{kind_at, empty_value}
use Rattle.values.proofs.Bools.{either}
use Rattle.buffers.specs.Memory.{put}
use Rattle.buffers.proofs.Puts.{put_nil}
use Rattle.words.specs.Words.{value_at}
use Rattle.calls.specs.Words.{call_of}
use Rattle.builtins.specs.Fold.{refused, fold_in}
use Rattle.builtins.specs.Words.{refusal_in, written_in}
use Rattle.formed.proofs.AnswerWords.{answer_words_lem, answer_loss, loss_most}
use Rattle.records.proofs.Refused.{refused_so}

-- ---- the zeros

abbrev blank : List ℕ
blank = replicate 35 0

zeros_first : value_at blank 0 ≡ empty_value
unfolding value_at empty_value kind_at
zeros_first = refl

zeros_second : value_at blank 17 ≡ empty_value
unfolding value_at empty_value kind_at
zeros_second = refl

-- ---- the words of an answer in their place

none_written : (R : Reading) (w : List ℕ) → eqb (fold_in R (call_of w)).refusal 0 ≡ false → written_in R 35 w ≡ []
unfolding refusal_in written_in
none_written R w t = rw (t, t)

module _ (R : Reading) (w : List ℕ) {o' : List ℕ} (eo : o' ≡ put blank 0 (written_in R 35 w)) where
  unwritten : eqb (fold_in R (call_of w)).refusal 0 ≡ false → o' ≡ blank
  unwritten t = eo ∙ ap (put blank 0) (none_written R w t) ∙ put_nil blank 0

  pub loss_few : get_or o' 34 0 ≤ 2
  loss_few =
      elim (either (eqb (fold_in R (call_of w)).refusal 0)) [
        | inl t ↦ let e = eqb-true _ 0 t in rw (answer_loss R w blank (omega arith) eo e) (loss_most R w blank (omega arith) eo e)
        | inr t ↦ rw (unwritten t) (omega arith)
      ]

  module _ {r l : ℕ} {v u : Value} (er : r ≡ refusal_in R 35 w) (ev : v ≡ value_at o' 0) (eu : u ≡ value_at o' 17) (el : l ≡ get_or o' 34 0) where
    unread : eqb (fold_in R (call_of w)).refusal 0 ≡ false → record { refusal = r; first = v; second = u; loss = l } ≡ fold_in R (call_of w)
    unfolding refused
    unread t =
        let same = unwritten t in
        rw ((answer_words_lem R w blank (omega arith) eo er).0, ev ∙ ap (λ (m : List ℕ). value_at m 0) same ∙ zeros_first, eu ∙ ap (λ (m : List ℕ). value_at m 17) same ∙ zeros_second, el ∙ ap (λ (m : List ℕ). get_or m 34 0) same)
        (sym (refused_so R w t))

    read : (fold_in R (call_of w)).refusal ≡ 0 → record { refusal = r; first = v; second = u; loss = l } ≡ fold_in R (call_of w)
    read e =
        let told = answer_words_lem R w blank (omega arith) eo er in
        let values = told.1 (told.0 ∙ e) in
        rw (told.0, ev ∙ values.0, eu ∙ values.1, el ∙ answer_loss R w blank (omega arith) eo e)

    pub answer_read : record { refusal = r; first = v; second = u; loss = l } ≡ fold_in R (call_of w)
    answer_read = ⊎_elim (λ t. read (eqb-true _ 0 t)) unread (either (eqb (fold_in R (call_of w)).refusal 0))
