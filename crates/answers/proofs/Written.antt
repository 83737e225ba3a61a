-- What is told and written of an answer by its refusal and its room, and how long its two parts are. Assumes nothing.
use Prim.Native.Nat.{ℕ, ◌+◌, ◌<◌, ◌≤◌}
use mathlib.Core.Bool.{Bool, true, false, cond}
use mathlib.Core.List.{List, [], ◌∷◌, ◌++◌}
use mathlib.Core.Path.{◌≡◌, refl, ap, sym, ◌∙◌}
use native.Mathlib.Omega.{arith}
use native.Mathlib.Nat.{zero-add}
use borrow.Author.Tests.{ne_eqb}
use lib.Dec.{eqb}
use lib.ListN.{length, length-append}
use Rattle.values.specs.declared.Value.{Value}
use Rattle.values.specs.Value.{is_type, place, kind_at}
use Rattle.values.proofs.Places.{placed}
use Rattle.buffers.specs.Memory.{put}
use Rattle.buffers.proofs.Puts.{Made, both_made, put_nil, given_refused, given_short, given_room}
use Rattle.words.specs.Words.{value_at}
use Rattle.places.proofs.Tables.{typed}
use Rattle.builtins.specs.declared.Answer.{Answer}
use Rattle.spelling.specs.Write.{text_of, text_length}
use Rattle.spelling.proofs.Texts.{at_most_155}
use Rattle.writing.proofs.ValueTexts.{length_by_place}
use Rattle.fields.specs.Fields.{tab}
use Rattle.answers.specs.Answers.{second_text, values_text, told_in, spelled_in, answered_in}
use Rattle.answers.specs.Program.{second_length}

-- ---- by the refusal and the room

module _ (room : ℕ) (x : Answer) where
  pub in_refused : (x.refusal ≡ 0 → ⊥) → (told_in room x ≡ x.refusal) × (spelled_in room x ≡ [])
  unfolding told_in spelled_in
  in_refused = given_refused room (length (values_text x)) x.refusal (values_text x)

  in_short : x.refusal ≡ 0 → room < length (values_text x) → (told_in room x ≡ 8) × (spelled_in room x ≡ [])
  unfolding told_in spelled_in
  in_short = given_short room (length (values_text x)) x.refusal (values_text x)

  pub in_room : x.refusal ≡ 0 → length (values_text x) ≤ room → (told_in room x ≡ 0) × (spelled_in room x ≡ values_text x)
  unfolding told_in spelled_in
  in_room = given_room room (length (values_text x)) x.refusal (values_text x)

-- ---- what the code does of the answer, by its refusal and its room

module _ (o : List ℕ) (x : Answer) where
  pub refused_so : {r : ℕ} → r ≡ x.refusal → (r ≡ 0 → ⊥) → (record { refusal = r; len = 0; place = 0 } ≡ answered_in (length o) x) × (o ≡ put o 0 (spelled_in (length o) x))
  unfolding answered_in
  refused_so e h =
      let w = in_refused (length o) x (λ z. h (e ∙ z)) in
      (rw (w.0, w.1, ← e), sym (ap (put o 0) w.1 ∙ put_nil o 0))

  module _ {v u : Value} (z : x.refusal ≡ 0) (ev : v ≡ x.first) (eu : u ≡ x.second) where
    text : text_of v ++ second_text u ≡ values_text x
    unfolding values_text
    text = rw (ev, eu)

    text_length_lem : length (values_text x) ≡ length (text_of v) + length (second_text u)
    text_length_lem = ap length (sym text) ∙ length-append (text_of v) (second_text u)

    pub short_so : length o < length (text_of v) + length (second_text u) → (record { refusal = 8; len = 0; place = 0 } ≡ answered_in (length o) x) × (o ≡ put o 0 (spelled_in (length o) x))
    unfolding answered_in
    short_so h =
        let w = in_short (length o) x z (omega (arith, text_length_lem)) in
        (rw (w.0, w.1), sym (ap (put o 0) w.1 ∙ put_nil o 0))

    pub answered_so : length (text_of v) + length (second_text u) ≤ length o → {n r : ℕ} {o' o'' : List ℕ} → Made o 0 (text_of v) n o' → Made o' n (second_text u) r o''
        → (record { refusal = 0; len = r; place = 0 } ≡ answered_in (length o) x) × (o'' ≡ put o 0 (spelled_in (length o) x))
    unfolding answered_in
    answered_so h f g =
        let room : 0 + length (text_of v ++ second_text u) ≤ length o = omega (arith, length-append (text_of v) (second_text u)) in
        let w = in_room (length o) x z (omega (arith, text_length_lem)) in
        let m = both_made o 0 (text_of v) (second_text u) room f g in
        (rw (w.0, w.1, ← text, m.0, zero-add), m.1 ∙ ap (put o 0) (text ∙ sym w.1))

-- ---- a second value, by its type's place

module _ (v : Value) where
  pub second_none : place v.kind ≡ 0 → second_text v ≡ []
  unfolding second_text
  second_none e = rw (← (typed v.kind), e)

  pub second_some : (place v.kind ≡ 0 → ⊥) → second_text v ≡ (tab ∷ []) ++ text_of v
  unfolding second_text
  second_some h = rw (← (typed v.kind), ne_eqb (place v.kind) 0 h)

-- ---- how long the texts of values among words are, by the places of their types

module _ (a : List ℕ) (at : ℕ) {p : ℕ} (e : p ≡ place (value_at a at).kind) where
  pub text_there : {n : ℕ} → n ≡ text_length (kind_at p) → n ≡ length (text_of (value_at a at))
  text_there en = en ∙ sym (length_by_place a at e)

  second_by : (t : Bool) → length (cond t (tab ∷ text_of (value_at a at)) []) ≡ cond t (text_length (kind_at p) + 1) 0
  second_by true = omega (arith, length_by_place a at e)
  second_by false = refl

  pub second_there : {n : ℕ} → n ≡ second_length (kind_at p) → n ≡ length (second_text (value_at a at))
  unfolding second_text second_length
  second_there en = rw (ap is_type (placed (sym e))) (en ∙ sym (second_by (is_type (kind_at p))))

-- ---- no answer is longer than two values and a tab

second_most : (v : Value) → length (second_text v) ≤ 156
unfolding second_text
second_most v = by (is_type v.kind)
  where
    by : (t : Bool) → length (cond t (9 ∷ text_of v) []) ≤ 156
    by true = omega (arith, at_most_155 v)
    by false = omega arith

pub values_most : (x : Answer) → length (values_text x) ≤ 311
unfolding values_text
values_most x = omega (arith, length-append (text_of x.first) (second_text x.second), at_most_155 x.first, second_most x.second)

pub spelled_most : (room : ℕ) (x : Answer) → length (spelled_in room x) ≤ 311
unfolding spelled_in
spelled_most room x = by (eqb (told_in room x) 0)
  where
    by : (t : Bool) → length (cond t (values_text x) []) ≤ 311
    by true = values_most x
    by false = omega arith
