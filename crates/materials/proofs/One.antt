-- The words of one answer, its refusal behind them: an answered call's are 35 and 0; a refused one's are zeros and its number, by `refused_so`. Assumes nothing.
use Prim.Native.Nat.{ℕ, ◌+◌}
use mathlib.Core.Bool.{false, true, cond}
use mathlib.Core.List.{List, [], ◌∷◌, ◌++◌, append_assoc, append-nil}
use mathlib.Core.Logic.{⊎_elim}
use mathlib.Core.Path.{◌≡◌, refl, ap, sym, ◌∙◌}
use native.Mathlib.Omega.{arith}
use borrow.Author.Tests.{eqb-true, eqb-false}
use lib.Dec.{eqb}
use lib.ListN.{length, set, replicate, length-append}
use lib.Seq.{drop-length}
use Rattle.readings.specs.declared.Reading.{Reading}
use Rattle.values.specs.Value.{empty_value}
use Rattle.values.proofs.Bools.{either}
use Rattle.buffers.specs.Memory.{put}
use Rattle.buffers.proofs.Puts.{put_length, put_set, put_nil, then, given_refused}
use Rattle.words.specs.Words.{words_of}
use Rattle.calls.specs.Words.{call_of}
use Rattle.builtins.specs.Fold.{refused, fold_in}
use Rattle.builtins.specs.Words.{answer_of, refusal_in, written_in}
use Rattle.formed.proofs.AnswerWords.{in_room, told, first_16, second_16}
use Rattle.records.proofs.Refused.{refused_so}
use Rattle.materials.specs.Words.{answer_words}

-- all of the memory is written
put_whole : (o xs : List ℕ) → length xs ≡ length o → put o 0 xs ≡ xs
unfolding put
put_whole o xs e = let k : 0 + length xs ≡ length o = omega arith in rw (k, drop-length o) (append-nil xs)

-- two empty values and a 0 are 35 zeros
pub cleared : (o : List ℕ) {o₁ o₂ : List ℕ} → length o ≡ 36 → o₁ ≡ put o 0 (words_of empty_value) → o₂ ≡ put o₁ 17 (words_of empty_value) → set o₂ 34 0 ≡ put o 0 (replicate 35 0)
unfolding empty_value
cleared o {o₂ = o₂} h e₁ e₂ =
    let both = then o 0 (replicate 17 0) (replicate 17 0) (omega arith) e₁ refl e₂ in
    then o 0 (replicate 34 0) (0 ∷ []) (omega arith) both refl (put_set o₂ 34 0 (omega (arith, ap length both, put_length o 0 (replicate 34 0) (omega arith))))

module _ (R : Reading) (w : List ℕ) where
  abbrev refusal : ℕ
  refusal = (fold_in R (call_of w)).refusal

  answer_35 : refusal ≡ 0 → length (answer_of R w) ≡ 35
  unfolding answer_of
  answer_35 e = simp length-append (omega (arith, first_16 R w e, second_16 R w e))

  behind : answer_of R w ++ refusal ∷ [] ≡ answer_words (fold_in R (call_of w))
  unfolding answer_of answer_words
  behind = simp append_assoc

  zeros : (n : ℕ) → replicate 35 0 ++ n ∷ [] ≡ answer_words (refused n)
  unfolding answer_words refused empty_value
  zeros n = refl

  -- of the memory before, after the fold, after the clearing and after the number
  module _ (o : List ℕ) {o₁ o₂ o₃ : List ℕ} {r : ℕ} (h : length o ≡ 36) (er : r ≡ refusal_in R (length o) w) (e₁ : o₁ ≡ put o 0 (written_in R (length o) w))
      (e₂ : o₂ ≡ cond (eqb r 0) o₁ (put o₁ 0 (replicate 35 0))) (e₃ : o₃ ≡ put o₂ 35 (r ∷ [])) where
    is : r ≡ refusal
    is = er ∙ told R w (length o) (omega arith)

    whole : (xs : List ℕ) → length xs ≡ 35 → o₂ ≡ put o 0 xs → o₃ ≡ xs ++ r ∷ []
    whole xs l e = then o 0 xs (r ∷ []) (omega arith) e (omega arith) e₃ ∙ put_whole o (xs ++ r ∷ []) (length-append xs (r ∷ []) ∙ omega arith)

    answered_so : eqb refusal 0 ≡ true → o₃ ≡ answer_words (fold_in R (call_of w))
    answered_so t =
        let z = eqb-true refusal 0 t in
        whole (answer_of R w) (answer_35 z) (rw (is, t) at e₂ ∙ e₁ ∙ ap (put o 0) (in_room R w (length o) (omega arith) z).1) ∙ rw is behind

    none_written : eqb refusal 0 ≡ false → o₁ ≡ o
    unfolding refusal_in written_in
    none_written t = e₁ ∙ ap (put o 0) (given_refused (length o) 35 refusal (answer_of R w) (eqb-false refusal 0 t)).1 ∙ put_nil o 0

    refused_words : eqb refusal 0 ≡ false → o₃ ≡ answer_words (fold_in R (call_of w))
    refused_words t = whole (replicate 35 0) refl (rw (is, t) at e₂ ∙ ap (λ (m : List ℕ). put m 0 (replicate 35 0)) (none_written t)) ∙ rw is (zeros refusal) ∙ ap answer_words (sym (refused_so R w t))

    pub one_answer : o₃ ≡ answer_words (fold_in R (call_of w))
    one_answer = ⊎_elim answered_so refused_words (either (eqb refusal 0))

  pub answer_36 : length (answer_words (fold_in R (call_of w))) ≡ 36
  answer_36 =
      ⊎_elim (λ t. ap length (sym behind) ∙ length-append (answer_of R w) (refusal ∷ []) ∙ omega (arith, answer_35 (eqb-true refusal 0 t)))
      (λ t. ap (λ a. length (answer_words a)) (refused_so R w t) ∙ ap length (sym (zeros refusal))) (either (eqb refusal 0))
