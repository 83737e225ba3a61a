-- What 01's answers print are answer lines, and read back: no value's text has a tab, so it is one field, and its reading is the value. Assumes nothing.
use Prim.Native.Nat.{ℕ, zero, suc, ◌+◌, ◌/◌, ◌%◌, ◌<◌, ◌≤◌}
use mathlib.Core.List.{List, [], ◌∷◌, ◌++◌, append-nil}
use mathlib.Core.Bool.{Bool, true, false, cond, ◌&&◌}
use mathlib.Core.Logic.{inl, inr}
use mathlib.Core.Path.{◌≡◌, refl, ap, sym, ◌∙◌}
use native.Mathlib.Nat.{mod-lt}
use native.Mathlib.Omega.{arith}
use lib.ListN.{length, length-append}
use lib.Seq.{take-append_seam, drop-append-add}
use lib.Dec.{lit<, eqb, ltb, leb}
use borrow.Author.Tests.{ne_eqb, eqb-true, eqb-false, le-leb, leb-true}
use Rattle.values.specs.Value.{every, empty_value, well_formed}
use Rattle.values.specs.declared.Value.{Value}
use Rattle.values.proofs.Bools.{both, either, every_both}
use Rattle.buffers.specs.Text.{place_of, bytes, same_bytes}
use Rattle.buffers.proofs.FirstPlace.{place_le, place_past, place_after, without}
use Rattle.buffers.proofs.Lookup.{same_false}
use Rattle.spelling.specs.Read.{read_value, found, wrong}
use Rattle.spelling.specs.Write.{text_of}
use Rattle.spelling.proofs.ReadsBack.{read_back}
use Rattle.spelling.proofs.TextBytes.{text_tabless}
use Rattle.fields.specs.Fields.{tab, fields}
use Rattle.printing.specs.Decimal.{digits, places, refused_text, place_text}
use Rattle.printing.proofs.Digits.{length_digits, refused_some, placed_none, placed_some}
use Rattle.listings.specs.Answers.{faultless, decimal_digit, refused_line, values_line, is_number, is_pair, says_refused, of_fields, read_answer}
use Rattle.listings.proofs.Parted.{whole, cut_first}

-- a text without a tab is one field; where a tab and another text follow, they are two
one_field : (a : List ℕ) → without tab a ≡ true → fields a ≡ a ∷ []
one_field a t = whole a (omega (arith, place_le tab a, past))
  where
    past : length a ≤ place_of tab a
    past = simp append-nil at (place_past tab a [] t)

next_field : (a r : List ℕ) → without tab a ≡ true → fields (a ++ (tab ∷ r)) ≡ a ∷ fields r
next_field a r t =
    let e = place_after tab a r t in
    cut_first (a ++ (tab ∷ r)) (omega (arith, e, length-append a (tab ∷ r))) ∙ rw (e, take-append_seam a (tab ∷ r), drop-append-add a (tab ∷ r) 1)

-- the text of a well-formed value is an answer line, and reads back as that value
pub value_read : (v : Value) → length v.lanes ≡ 16 → well_formed v ≡ true → read_answer (text_of v) ≡ values_line v empty_value
unfolding read_answer of_fields found
value_read v e w = rw (one_field (text_of v) (text_tabless v), read_back v e w)

-- no value's text is `refused`, which does not read as one
not_refused : (v : Value) → length v.lanes ≡ 16 → well_formed v ≡ true → says_refused (text_of v) ≡ false
unfolding read_value place_of found wrong
not_refused v e w = same_false (text_of v) (bytes "refused") differ
  where
    differ : text_of v ≡ bytes "refused" → ⊥
    differ q =
        let f : true ≡ false = ap (λ r. faultless r.fault) (sym (read_back v e w) ∙ ap read_value q) in
        let z : ◌≡◌ {A = ℕ} 0 1 = cc in
        omega arith

-- the texts of a float value and of i32s in its shape, parted by a tab, are an answer line, and read back as the two
pub pair_read : (v w : Value) → length v.lanes ≡ 16 → well_formed v ≡ true → length w.lanes ≡ 16 → well_formed w ≡ true
    → is_pair v.kind w.kind ≡ true → read_answer (text_of v ++ (tab ∷ text_of w)) ≡ values_line v w
unfolding read_answer of_fields found
pair_read v w e f g h p =
    rw (next_field (text_of v) (text_of w) (text_tabless v), one_field (text_of w) (text_tabless w), not_refused v e f, read_back v e f, read_back w g h, p)

-- digits have no byte below them, as a tab or a newline is
pub decimal_without : (b : ℕ) → b < 48 → (s : List ℕ) → every decimal_digit s ≡ true → without b s ≡ true
decimal_without b k [] t = refl
decimal_without b k (x ∷ s) t =
    let h = both (decimal_digit x) (every decimal_digit s) t in
    let l = leb-true 48 x (both (leb 48 x) (leb x 57) h.0).0 in
    rw (ne_eqb x b (λ e. omega arith)) (decimal_without b k s h.1)

number_tabless : (s : List ℕ) → is_number s ≡ true → without tab s ≡ true
unfolding is_number
number_tabless s t = decimal_without tab (lit< tt) s (both (leb 1 (length s) && leb (length s) 3) (every decimal_digit s) t).1

-- `refused` with a number, and with a number and a place
pub refused_read : (n : List ℕ) → is_number n ≡ true → read_answer (bytes "refused" ++ (tab ∷ n)) ≡ refused_line
unfolding read_answer of_fields same_bytes
refused_read n e = rw (next_field (bytes "refused") n refl, one_field n (number_tabless n e), e)

pub refused_place_read : (n p : List ℕ) → is_number n ≡ true → is_number p ≡ true
    → read_answer (bytes "refused" ++ (tab ∷ (n ++ (tab ∷ p)))) ≡ refused_line
unfolding read_answer of_fields same_bytes
refused_place_read n p e f =
    rw (next_field (bytes "refused") (n ++ (tab ∷ p)) refl, next_field n p (number_tabless n e), one_field p (number_tabless p f), e, f)

pub digits_decimal : (k v : ℕ) → every decimal_digit (digits k v) ≡ true
unfolding digits
digits_decimal zero v = refl
digits_decimal (suc k) v =
    let m : v % 10 < 10 = mod-lt v (omega arith) in
    every_both _ (digits k (v / 10)) _ (digits_decimal k (v / 10)) (rw (le-leb 48 (48 + v % 10) (omega arith), le-leb (48 + v % 10) 57 (omega arith)))

digits_number : (k v : ℕ) → 1 ≤ k → k ≤ 3 → is_number (digits k v) ≡ true
unfolding is_number
digits_number k v l m = rw (length_digits k v, le-leb 1 k l, le-leb k 3 m) (digits_decimal k v)

decimal_number : (v : ℕ) → is_number (digits (places v) v) ≡ true
unfolding places
decimal_number v = by (ltb v 10) (ltb v 100)
  where
    by : (a b : Bool) → is_number (digits (cond a 1 (cond b 2 3)) v) ≡ true
    by true b = digits_number 1 v (omega arith) (omega arith)
    by false true = digits_number 2 v (omega arith) (omega arith)
    by false false = digits_number 3 v (omega arith) (omega arith)

-- what is printed for a refused line is an answer line, with a place or without
pub refusal_read : (n p : ℕ) → (n ≡ 0 → ⊥) → read_answer (refused_text n ++ place_text p) ≡ refused_line
refusal_read n p h =
    elim (either (eqb p 0)) [
      | inl e ↦ rw (placed_none p (eqb-true p 0 e), append-nil, refused_some n h) (refused_read (digits (places n) n) (decimal_number n))
      | inr e ↦
          rw (placed_some p (eqb-false p 0 e), refused_some n h)
          (refused_place_read (digits (places n) n) (digits (places p) p) (decimal_number n) (decimal_number p))
    ]
