-- Whatever is printed for a line of input is an answer line: a refusal is `refused` and its number, and the call that a line spells has values of 16 lanes, so that what it is answered with is
-- well formed. No answer line has a newline in it, so what is printed for all of the input is these lines, one after another. Assumes nothing.
use Prim.Native.Nat.{ℕ}
use mathlib.Core.Bool.{Bool, true, false, cond}
use mathlib.Core.List.{List, [], ◌∷◌, ◌++◌, append-nil}
use mathlib.Core.Logic.{inl, inr}
use mathlib.Core.Path.{◌≡◌, refl, ◌∙◌}
use native.Mathlib.Numerals.{add-one}
use native.Mathlib.Omega.{arith}
use lib.Dec.{lit<, ltb, eqb}
use lib.ListN.{length, length-append}
use lib.Seq.{take-append_seam, drop-append-add}
use borrow.Author.Tests.{eqb-true, eqb-false}
use Rattle.values.specs.declared.Value.{Value}
use Rattle.readings.specs.declared.Reading.{Reading}
use Rattle.values.specs.Value.{is_type, shaped, empty_value}
use Rattle.values.specs.declared.Scalar.TheVariants.{I32}
use Rattle.values.proofs.Bools.{and, every_both}
use Rattle.values.proofs.Places.{itself}
use Rattle.calls.specs.declared.Builtin.TheVariants.{Bitcast}
use Rattle.builtins.specs.declared.Answer.{Answer}
use Rattle.builtins.specs.Fold.{refused, fold_in}
use Rattle.formed.specs.Answers.{AnswerFormed, Held}
use Rattle.formed.proofs.Answered.{answers_formed}
use Rattle.buffers.specs.Text.{bytes, same_bytes}
use Rattle.buffers.proofs.FirstPlace.{without, place_after}
use Rattle.spelling.specs.Write.{text_of}
use Rattle.spelling.proofs.WrittenSo.{read_lanes_lem}
use Rattle.spelling.proofs.TextBytes.{text_without}
use Rattle.fields.specs.Fields.{tab, field_at, argument_count}
use Rattle.names.specs.Names.{name_of, builtin_of}
use Rattle.lines.specs.Line.{plain_call, cast_call, call_of, line_of, refusal_of, fault_place, answer_of}
use Rattle.lines.proofs.Misspelt.{none_told}
use Rattle.answers.specs.Answers.{second_text, values_text}
use Rattle.cutting.specs.Cutting.{most_bytes}
use Rattle.cutting.specs.Lines.{lines}
use Rattle.printing.specs.Decimal.{places, digits, refused_text, place_text, refused_at}
use Rattle.stream.specs.Printed.{answer_text, answer_line, answer_lines, printed}
use Rattle.cutting.proofs.Cut.{lines_ended}
use Rattle.listings.specs.Answers.{refused_line, values_line, is_pair, read_answer}
use Rattle.listings.specs.Listing.{all_answers}
use Rattle.listings.proofs.AnswerTexts.{value_read, pair_read, refusal_read, decimal_without, digits_decimal}
use Rattle.listings.proofs.AnswerValues.{no_second, second}

-- ---- one line

held : (line : List ℕ) → Held (call_of line)
unfolding call_of cast_call plain_call empty_value
held line = by (same_bytes (name_of Bitcast) (field_at line 0))
  where
    by : (b : Bool) → let which = builtin_of (field_at line 0) in let n = argument_count line in Held (cond b (cast_call which n line) (plain_call which n line))
    by true = record { a = read_lanes_lem (field_at line 2); b = refl; c = refl }
    by false = record { a = read_lanes_lem (field_at line 1); b = read_lanes_lem (field_at line 2); c = read_lanes_lem (field_at line 3) }

line_formed : (R : Reading) (line : List ℕ) → refusal_of R line ≡ 0 → AnswerFormed (line_of R line)
unfolding line_of refused
line_formed R line z = by (ltb most_bytes (length line)) (none_told R line z)
  where
    by : (b : Bool) → (cond b (refused 7) (fold_in R (call_of line))).refusal ≡ 0 → AnswerFormed (cond b (refused 7) (fold_in R (call_of line)))
    by true e = absurd (omega arith)
    by false e = answers_formed R (call_of line) (held line) e

answer_ok : (a : Answer) → AnswerFormed a → (read_answer (text_of a.first ++ second_text a.second)).ok ≡ true
unfolding values_line is_pair
answer_ok a h =
    let f = h.first in
    elim h.second [
      | inl e ↦ rw (e, no_second, append-nil, value_read a.first f.lanes f.good)
      | inr p ↦
          let w = p.second in
          let pair : is_pair a.first.kind a.second.kind ≡ true = and p.float (rw p.shape (itself (shaped I32 a.first.kind))) in
          rw (second a.second w.good, pair_read a.first a.second f.lanes f.good w.lanes w.good pair)
    ]

pub printed_answer : (R : Reading) (l : List ℕ) → (read_answer (answer_text R l)).ok ≡ true
unfolding answer_text answer_of values_text refused_line
printed_answer R l = by (eqb (refusal_of R l) 0) refl
  where
    by : (b : Bool) → eqb (refusal_of R l) 0 ≡ b → (read_answer (cond b (answer_of R l) (refused_at (refusal_of R l) (fault_place R l)))).ok ≡ true
    by true e = answer_ok (line_of R l) (line_formed R l (eqb-true (refusal_of R l) 0 e))
    by false e = rw (refusal_read (refusal_of R l) (fault_place R l) (eqb-false (refusal_of R l) 0 e))

-- ---- all lines

second_unbroken : (v : Value) → without 10 (second_text v) ≡ true
unfolding second_text
second_unbroken v = by (is_type v.kind)
  where
    by : (b : Bool) → without 10 (cond b (tab ∷ text_of v) []) ≡ true
    by true = text_without 10 (lit< tt) v
    by false = refl

refused_unbroken : (n : ℕ) → without 10 (refused_text n) ≡ true
unfolding refused_text
refused_unbroken n = by (eqb n 0)
  where
    by : (b : Bool) → without 10 (cond b [] (bytes "refused" ++ tab ∷ digits (places n) n)) ≡ true
    by true = refl
    by false = decimal_without 10 (lit< tt) (digits (places n) n) (digits_decimal (places n) n)

place_unbroken : (p : ℕ) → without 10 (place_text p) ≡ true
unfolding place_text
place_unbroken p = by (eqb p 0)
  where
    by : (b : Bool) → without 10 (cond b [] (9 ∷ digits (places p) p)) ≡ true
    by true = refl
    by false = decimal_without 10 (lit< tt) (digits (places p) p) (digits_decimal (places p) p)

answer_unbroken : (R : Reading) (l : List ℕ) → without 10 (answer_text R l) ≡ true
unfolding answer_text answer_of values_text
answer_unbroken R l = by (eqb (refusal_of R l) 0)
  where
    by : (b : Bool) → without 10 (cond b (answer_of R l) (refused_at (refusal_of R l) (fault_place R l))) ≡ true
    by true = let a = line_of R l in every_both _ (text_of a.first) (second_text a.second) (text_without 10 (lit< tt) a.first) (second_unbroken a.second)
    by false = every_both _ (refused_text (refusal_of R l)) (place_text (fault_place R l)) (refused_unbroken (refusal_of R l)) (place_unbroken (fault_place R l))

-- a text without a newline, and a newline, are the first line
line_first : (t rest : List ℕ) → without 10 t ≡ true → lines ((t ++ (10 ∷ [])) ++ rest) ≡ t ∷ lines rest
line_first t rest h =
    let e = place_after 10 t [] h in
    lines_ended rest (t ++ (10 ∷ [])) (omega (arith, e, length-append t (10 ∷ []))) ∙ rw (e, take-append_seam t (10 ∷ []), ← add-one (length t), drop-append-add t (10 ∷ []) 1)

all_printed : (R : Reading) (ls : List (List ℕ)) → all_answers (lines (answer_lines R ls)) ≡ true
unfolding all_answers answer_lines answer_line lines
all_printed R [] = refl
all_printed R (l ∷ ls) = rw (line_first (answer_text R l) (answer_lines R ls) (answer_unbroken R l)) (and (printed_answer R l) (all_printed R ls))

-- what is printed for all of the input, in either reading, is a listing of answer lines
pub printed_answers : (R : Reading) (s : List ℕ) → all_answers (lines (printed R s)) ≡ true
unfolding printed
printed_answers R s = all_printed R (lines s)
