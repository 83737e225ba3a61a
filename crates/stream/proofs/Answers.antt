-- One line's answer, its text and its length: a refusal is printed, an answer is what was written. Assumes nothing.
use Prim.Native.Nat.{ℕ, ◌+◌, ◌≤◌}
use mathlib.Core.List.{List, [], ◌∷◌, ◌++◌, append-nil}
use mathlib.Core.Bool.{Bool, true, false, cond}
use mathlib.Core.Path.{◌≡◌, refl, ap}
use native.Mathlib.Omega.{arith}
use lib.ListN.{length, length-append}
use lib.Dec.{eqb}
use borrow.Author.Tests.{eqb-true, eqb-false}
use Rattle.readings.specs.declared.Reading.{Reading}
use Rattle.printing.specs.Decimal.{refused_text, place_text, refused_at}
use Rattle.stream.specs.Printed.{answer_text, answer_line}
use Rattle.lines.specs.Line.{refusal_of, fault_place, answer_of, refusal_in, written_in, line_answer}
use Rattle.stream.specs.Stream.{line_room, most_text}
use Rattle.answers.specs.declared.LineAnswer.{LineAnswer}
use Rattle.printing.proofs.Digits.{refused_at_le}
use Rattle.lines.proofs.Written.{in_refused, in_room, no_place, answer_most}

pub text_le : (R : Reading) (l : List ℕ) → length (answer_text R l) ≤ most_text
unfolding answer_text
text_le R l = by (eqb (refusal_of R l) 0)
  where
    by : (b : Bool) → length (cond b (answer_of R l) (refused_at (refusal_of R l) (fault_place R l))) ≤ most_text
    by true = answer_most R l
    by false = omega (arith, refused_at_le (refusal_of R l) (fault_place R l))

-- with room for every answer, what is written and the refusal's text make up the text
pub text_in_lem : (R : Reading) (room : ℕ) (l : List ℕ) → most_text ≤ room → written_in R room l ++ refused_at (refusal_in R room l) (fault_place R l) ≡ answer_text R l
unfolding answer_text refused_text place_text
text_in_lem R room l h = by (eqb (refusal_of R l) 0) refl
  where
    by : (b : Bool) → eqb (refusal_of R l) 0 ≡ b → written_in R room l ++ refused_at (refusal_in R room l) (fault_place R l) ≡ answer_text R l
    by true e =
        let z = eqb-true (refusal_of R l) 0 e in
        let w = in_room R room l z (omega (arith, answer_most R l)) in
        rw (w.0, w.1, no_place R l z, e) (append-nil (answer_of R l))
    by false e =
        let w = in_refused R room l (eqb-false (refusal_of R l) 0 e) in
        rw (w.0, w.1, e)

-- a line's answer as the record that fold_line gives: its text, how much of it is written, and how long it is
module _ (R : Reading) (room : ℕ) (l : List ℕ) {r : LineAnswer} (e : r ≡ line_answer R room l) (h : most_text ≤ room) where
  pub text_of : written_in R room l ++ refused_at r.refusal r.place ≡ answer_text R l
  unfolding line_answer
  text_of = rw e (text_in_lem R room l h)

  pub written_of : r.len ≡ length (written_in R room l)
  unfolding line_answer
  written_of = rw e

  pub fit_of : r.len + length (refused_at r.refusal r.place) ≡ length (answer_text R l)
  fit_of = omega (arith, written_of, length-append (written_in R room l) (refused_at r.refusal r.place), ap length text_of)

pub length_line : (R : Reading) (l : List ℕ) → length (answer_line R l) ≡ length (answer_text R l) + 1
unfolding answer_line
length_line R l = length-append (answer_text R l) (10 ∷ [])

pub line_le : (R : Reading) (l : List ℕ) → length (answer_line R l) ≤ line_room
line_le R l = omega (arith, length_line R l, text_le R l)
