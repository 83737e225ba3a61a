-- The words of an answer, where there is room for them all, are read as its two values and its loss: each value has 16 lanes, as it is well formed or empty. Assumes nothing.
use Prim.Native.Nat.{ℕ, ◌+◌, ◌≤◌}
use mathlib.Core.List.{List, [], ◌∷◌, ◌++◌, append_assoc}
use mathlib.Core.Logic.{⊎_elim}
use mathlib.Core.Path.{◌≡◌, refl, ap, sym, ◌∙◌}
use native.Mathlib.Omega.{arith}
use borrow.Author.Tests.{eqb-true, eqb-false}
use lib.Dec.{eqb}
use lib.ListN.{length, drop, get_or, length-append}
use lib.Seq.{get_or-append_seam}
use Rattle.readings.specs.declared.Reading.{Reading}
use Rattle.values.specs.Value.{empty_value}
use Rattle.values.proofs.Bools.{either}
use Rattle.buffers.specs.Memory.{put}
use Rattle.buffers.proofs.Puts.{given_refused, given_room}
use Rattle.words.specs.Words.{value_at, words_of}
use Rattle.words.proofs.There.{said}
use Rattle.calls.specs.Words.{call_of}
use Rattle.builtins.specs.Fold.{fold_in}
use Rattle.builtins.specs.Words.{answer_of, refusal_in, written_in}
use Rattle.words.proofs.There.{lanes_16}
use Rattle.formed.specs.Answers.{AnswerFormed, Held}
use Rattle.formed.proofs.Answered.{answers_formed}

module _ (R : Reading) (w : List ℕ) where
  held : Held (call_of w)
  unfolding call_of
  held = record { a = lanes_16 w 3; b = lanes_16 w 20; c = lanes_16 w 37 }

  module _ (room : ℕ) (h : 35 ≤ room) where
    pub in_room : (fold_in R (call_of w)).refusal ≡ 0 → (refusal_in R room w ≡ 0) × (written_in R room w ≡ answer_of R w)
    unfolding refusal_in written_in
    in_room e = given_room room 35 (fold_in R (call_of w)).refusal (answer_of R w) e h

    pub told : refusal_in R room w ≡ (fold_in R (call_of w)).refusal
    unfolding refusal_in written_in
    told =
        let refusal = (fold_in R (call_of w)).refusal in
        ⊎_elim (λ t. (in_room (eqb-true refusal 0 t)).0 ∙ sym (eqb-true refusal 0 t)) (λ t. (given_refused room 35 refusal (answer_of R w) (eqb-false refusal 0 t)).0) (either (eqb refusal 0))

  module _ (e : (fold_in R (call_of w)).refusal ≡ 0) where
    formed : AnswerFormed (fold_in R (call_of w))
    formed = answers_formed R (call_of w) held e

    pub first_16 : length (fold_in R (call_of w)).first.lanes ≡ 16
    first_16 = formed.first.lanes

    pub second_16 : length (fold_in R (call_of w)).second.lanes ≡ 16
    unfolding empty_value
    second_16 = ⊎_elim (λ none. rw none) (λ pair. pair.second.lanes) formed.second

  -- of memory o before and o' after
  module _ (o : List ℕ) {o' : List ℕ} (h : 35 ≤ length o) (eo : o' ≡ put o 0 (written_in R (length o) w)) where
    module _ (e : (fold_in R (call_of w)).refusal ≡ 0) where
      abbrev rest : List ℕ
      rest = drop (0 + length (answer_of R w)) o

      there : o' ≡ words_of (fold_in R (call_of w)).first ++ (words_of (fold_in R (call_of w)).second ++ ((fold_in R (call_of w)).loss ∷ rest))
      unfolding put answer_of
      there = eo ∙ ap (put o 0) (in_room (length o) h e).1 ∙ simp append_assoc

      values : (value_at o' 0 ≡ (fold_in R (call_of w)).first) × (value_at o' 17 ≡ (fold_in R (call_of w)).second)
      values =
          let first = (fold_in R (call_of w)).first in
          let second = (fold_in R (call_of w)).second in
          let past : List ℕ = (fold_in R (call_of w)).loss ∷ rest in
          (said [] (words_of second ++ past) first (first_16 e) there refl, said (words_of first) past second (second_16 e) there (omega (arith, first_16 e)))

      pub answer_loss : get_or o' 34 0 ≡ (fold_in R (call_of w)).loss
      answer_loss =
          let first = words_of (fold_in R (call_of w)).first in
          let second = words_of (fold_in R (call_of w)).second in
          let loss = (fold_in R (call_of w)).loss in
          let sizes : length (first ++ second) ≡ 34 = length-append first second ∙ omega (arith, first_16 e, second_16 e) in
          ap (λ (l : List ℕ). get_or l 34 0) (there ∙ sym (append_assoc first second (loss ∷ rest))) ∙ ap (λ (k : ℕ). get_or (first ++ second ++ loss ∷ rest) k 0) (sym sizes)
          ∙ get_or-append_seam (first ++ second) loss rest 0

      pub loss_most : (fold_in R (call_of w)).loss ≤ 2
      loss_most = (formed e).loss

    pub answer_words_lem : {r : ℕ} → r ≡ refusal_in R (length o) w
        → (r ≡ (fold_in R (call_of w)).refusal) × (r ≡ 0 → (value_at o' 0 ≡ (fold_in R (call_of w)).first) × (value_at o' 17 ≡ (fold_in R (call_of w)).second))
    answer_words_lem er = let is = er ∙ told (length o) h in (is, λ z. values (sym is ∙ z))
