-- What a line's answer says by its refusal and its room, and how long it is: what answers has of an answer. Assumes nothing.
use Prim.Native.Nat.{ℕ, ◌≤◌}
use mathlib.Core.Bool.{Bool, true, false, cond}
use mathlib.Core.List.{List, []}
use mathlib.Core.Path.{◌≡◌, refl, ap, ◌∙◌}
use native.Mathlib.Omega.{arith}
use borrow.Author.Tests.{eq-eqb, ne_eqb, ltb-false}
use lib.Dec.{eqb, ltb}
use lib.ListN.{length}
use Rattle.readings.specs.declared.Reading.{Reading}
use Rattle.builtins.specs.Fold.{refused, fold_in}
use Rattle.cutting.specs.Cutting.{most_bytes}
use Rattle.misspellings.proofs.MostPlaces.{fault_within}
use Rattle.answers.specs.declared.LineAnswer.{LineAnswer}
use Rattle.answers.specs.Answers.{values_text, told_in, answered_in}
use Rattle.answers.proofs.Written as Answer
use Rattle.lines.specs.Line.{is_cast, call_of, line_of, fault_of, in_place_of3, refusal_of, fault_place, answer_of, refusal_in, written_in, line_answer}
use Rattle.lines.specs.Program.{misspelled_line}
use Rattle.lines.proofs.Misspelt.{none_told, told}

module _ (R : Reading) (room : ℕ) (line : List ℕ) where
  pub in_refused : (refusal_of R line ≡ 0 → ⊥) → (refusal_in R room line ≡ refusal_of R line) × (written_in R room line ≡ [])
  unfolding refusal_of refusal_in written_in
  in_refused h =
      let w = Answer.in_refused room (line_of R line) (λ z. h (ap (λ (n : ℕ). in_place_of3 n line) z)) in
      (ap (λ (n : ℕ). in_place_of3 n line) w.0, w.1)

  pub in_room : refusal_of R line ≡ 0 → length (answer_of R line) ≤ room → (refusal_in R room line ≡ 0) × (written_in R room line ≡ answer_of R line)
  unfolding answer_of refusal_in written_in
  in_room z h =
      let w = Answer.in_room room (line_of R line) (none_told R line z) h in
      (ap (λ (n : ℕ). in_place_of3 n line) w.0, w.1)

-- ---- what the code gives, by the refusal of the call

module _ (R : Reading) (room : ℕ) (line : List ℕ) where
  told_not_3 : ((line_of R line).refusal ≡ 3 → ⊥) → told_in room (line_of R line) ≡ 3 → ⊥
  unfolding told_in
  told_not_3 h = by (eqb (line_of R line).refusal 0) (ltb room (length (values_text (line_of R line))))
    where
      by : (s t : Bool) → cond s (cond t 8 0) (line_of R line).refusal ≡ 3 → ⊥
      by true true e = omega arith
      by true false e = omega arith
      by false t e = h e

  -- where it is not 3, what answers gives
  pub answered_line : ((line_of R line).refusal ≡ 3 → ⊥) → {r : LineAnswer} → r ≡ answered_in room (line_of R line) → r ≡ line_answer R room line
  unfolding answered_in line_answer refusal_in written_in fault_place
  answered_line h e = e ∙ rw (ne_eqb _ _ h, ne_eqb _ _ (told_not_3 h))

  -- where it is 3, the misspelling
  pub misspelled_line_lem : (line_of R line).refusal ≡ 3 → {r : LineAnswer} → r ≡ misspelled_line line → (r ≡ line_answer R room line) × (written_in R room line ≡ [])
  unfolding line_answer refusal_in written_in fault_place
  misspelled_line_lem z e =
      let w = Answer.in_refused room (line_of R line) (λ q. omega arith) in
      (e ∙ rw (w.0, w.1, eq-eqb _ _ z), w.1)

pub answer_most : (R : Reading) (line : List ℕ) → length (answer_of R line) ≤ 311
unfolding answer_of
answer_most R line = Answer.values_most (line_of R line)

-- ---- the place of a fault

pub no_place : (R : Reading) (line : List ℕ) → refusal_of R line ≡ 0 → fault_place R line ≡ 0
no_place R line z = (told R line).unplaced (omega arith)

-- a line that is read has at most 400 bytes
pub place_most : (R : Reading) (line : List ℕ) → fault_place R line ≤ 558
unfolding fault_place line_of refused
place_most R line = by (ltb most_bytes (length line)) refl
  where
    at_most : (t : Bool) → (fault_of line).place ≤ 558 → cond t (fault_of line).place 0 ≤ 558
    at_most true h = h
    at_most false h = omega arith

    by : (t : Bool) → ltb most_bytes (length line) ≡ t → cond (eqb (cond t (refused 7) (fold_in R (call_of line))).refusal 3) (fault_of line).place 0 ≤ 558
    by true e = omega arith
    by false e =
        let h = ltb-false most_bytes (length line) e in
        at_most (eqb (fold_in R (call_of line)).refusal 3) (omega (arith, fault_within (is_cast line) line))
