-- The fault that is told of a line is the first faulty argument's: by induction on the arguments. Where all are rightly spelled none is told, and the other way round. Assumes nothing.
use Prim.Native.Nat.{ℕ, zero, suc, ◌+◌, ◌-◌, ◌<◌, ◌≤◌}
use mathlib.Core.Bool.{Bool, true, false, cond}
use mathlib.Core.List.{List, [], ◌∷◌}
use mathlib.Core.Logic.{◌⊎◌, inl, inr}
use mathlib.Core.Path.{◌≡◌, refl, ap, sym, ◌∙◌}
use native.Mathlib.Omega.{arith}
use borrow.Author.Tests.{eqb-true, eqb-false, eq-eqb}
use lib.Dec.{eqb, ltb}
use lib.ListN.{length, take, drop, get_or}
use Rattle.values.specs.Value.{is_type}
use Rattle.spelling.specs.declared.Fault.{Fault}
use Rattle.spelling.specs.declared.Fault.TheVariants.{Nothing, TypeSpelling, Lanes, Digit}
use Rattle.spelling.specs.Types.{kind_of}
use Rattle.spelling.specs.Read.{fault_number, read_value}
use Rattle.fields.specs.Fields.{fields, field_at}
use Rattle.fields.proofs.Tabs.{tab_at, cut}
use Rattle.misspellings.specs.declared.Misspelling.{Misspelling}
use Rattle.misspellings.specs.Misspellings.{misspelled, rightly, type_fault, field_fault, in_line, first_fault, line_fault}
use Rattle.misspellings.specs.Laws.{cast_at, AllRightly, Numbered, start_in, start_of, Leftmost}

-- ---- of fields

pub only_first : (k : ℕ) → cast_at false k ≡ false
only_first zero = refl
only_first (suc k) = refl

-- the fault of field k of some
abbrev nth : Bool → List (List ℕ) → ℕ → Misspelling
nth cast fs k = field_fault (cast_at cast k) (get_or fs k [])

module _ (cast : Bool) (at : ℕ) (f : List ℕ) (fs : List (List ℕ)) where
  past : eqb (field_fault cast f).refusal 0 ≡ true → first_fault cast at (f ∷ fs) ≡ first_fault false (at + length f + 1) fs
  unfolding first_fault
  past e = rw e

  here : eqb (field_fault cast f).refusal 0 ≡ false → first_fault cast at (f ∷ fs) ≡ in_line at (field_fault cast f)
  unfolding first_fault
  here e = rw e

  later : (k : ℕ) → nth cast (f ∷ fs) (suc k) ≡ nth false fs k
  later k = rw (only_first k)

-- the k-th is the first faulty one
record First (cast : Bool) (at : ℕ) (fs : List (List ℕ)) : Type 0 where
  k : ℕ
  there : k < length fs
  before : (j : ℕ) → j < k → (nth cast fs j).refusal ≡ 0
  what : (first_fault cast at fs).refusal ≡ (nth cast fs k).refusal
  place : (first_fault cast at fs).place ≡ start_in at fs k + (nth cast fs k).place - 1

first_here : (cast : Bool) (at : ℕ) (f : List ℕ) (fs : List (List ℕ)) → eqb (field_fault cast f).refusal 0 ≡ false → First cast at (f ∷ fs)
unfolding start_in
first_here cast at f fs e =
    let h = here cast at f fs e in
    record { k = 0; there = omega arith; before = λ j b. absurd (omega arith); what = ap (λ (m : Misspelling). m.refusal) h; place = ap (λ (m : Misspelling). m.place) h }

first_later : (cast : Bool) (at : ℕ) (f : List ℕ) (fs : List (List ℕ)) → eqb (field_fault cast f).refusal 0 ≡ true → First false (at + length f + 1) fs → First cast at (f ∷ fs)
unfolding start_in
first_later cast at f fs e i =
    let p = past cast at f fs e in
    record {
      k = suc i.k;
      there = omega (arith, i.there);
      before = before;
      what = ap (λ (m : Misspelling). m.refusal) p ∙ i.what ∙ ap (λ (m : Misspelling). m.refusal) (sym (later cast at f fs i.k));
      place = ap (λ (m : Misspelling). m.place) p ∙ i.place ∙ ap (λ (m : Misspelling). start_in (at + length f + 1) fs i.k + m.place - 1) (sym (later cast at f fs i.k));
    }
  where
    before : (j : ℕ) → j < suc i.k → (nth cast (f ∷ fs) j).refusal ≡ 0
    before zero b = eqb-true _ _ e
    before (suc j) b = ap (λ (m : Misspelling). m.refusal) (later cast at f fs j) ∙ i.before j (omega arith)

first : (cast : Bool) (at : ℕ) (fs : List (List ℕ)) → ((first_fault cast at fs).refusal ≡ 0 → ⊥) → First cast at fs
unfolding first_fault
first cast at [] h = absurd (h refl)
first cast at (f ∷ fs) h = by (eqb (field_fault cast f).refusal 0) refl (first false (at + length f + 1) fs)
  where
    by : (t : Bool) → eqb (field_fault cast f).refusal 0 ≡ t → (((first_fault false (at + length f + 1) fs).refusal ≡ 0 → ⊥) → First false (at + length f + 1) fs) → First cast at (f ∷ fs)
    by true e ih = first_later cast at f fs e (ih (λ z. h (ap (λ (m : Misspelling). m.refusal) (past cast at f fs e) ∙ z)))
    by false e ih = first_here cast at f fs e

-- where none is told, all are rightly spelled
none_faulty : (cast : Bool) (at : ℕ) (fs : List (List ℕ)) → (first_fault cast at fs).refusal ≡ 0 → (j : ℕ) → j < length fs → (nth cast fs j).refusal ≡ 0
none_faulty cast at [] z j b = absurd (omega arith)
none_faulty cast at (f ∷ fs) z j b = by (eqb (field_fault cast f).refusal 0) refl (none_faulty false (at + length f + 1) fs) j b
  where
    by : (t : Bool) → eqb (field_fault cast f).refusal 0 ≡ t
        → ((first_fault false (at + length f + 1) fs).refusal ≡ 0 → (j : ℕ) → j < length fs → (nth false fs j).refusal ≡ 0) → (j : ℕ) → j < suc (length fs) → (nth cast (f ∷ fs) j).refusal ≡ 0
    by true e ih zero b = eqb-true _ _ e
    by true e ih (suc j) b =
        ap (λ (m : Misspelling). m.refusal) (later cast at f fs j)
        ∙ ih (ap (λ (m : Misspelling). m.refusal) (sym (past cast at f fs e)) ∙ z) j (omega arith)
    by false e ih j b = absurd (eqb-false _ _ e (ap (λ (m : Misspelling). m.refusal) (sym (here cast at f fs e)) ∙ z))

none_told : (cast : Bool) (at : ℕ) (fs : List (List ℕ)) → ((j : ℕ) → j < length fs → (nth cast fs j).refusal ≡ 0) → first_fault cast at fs ≡ rightly
unfolding first_fault
none_told cast at [] h = refl
none_told cast at (f ∷ fs) h =
    past cast at f fs (eq-eqb _ _ (h 0 (omega arith)))
    ∙ none_told false (at + length f + 1) fs (λ j b. ap (λ (m : Misspelling). m.refusal) (sym (later cast at f fs j)) ∙ h (suc j) (omega arith))

-- ---- of a line

-- a line's fields are its first and others
record Cut (line : List ℕ) : Type 0 where
  name : List ℕ
  others : List (List ℕ)
  is : fields line ≡ name ∷ others

cut_off : (line : List ℕ) → Cut line
cut_off line = record { name = take (tab_at line) line; others = cond (ltb (tab_at line) (length line)) (fields (drop (suc (tab_at line)) line)) []; is = cut line }

module _ (cast : Bool) (line : List ℕ) where
  others : List (List ℕ)
  others = (cut_off line).others

  at : ℕ
  at = length (cut_off line).name + 2

  told : line_fault cast line ≡ first_fault cast at others
  unfolding line_fault field_at others at
  told = rw (cut_off line).is

  argument : (k : ℕ) → field_at line (suc k) ≡ get_or others k []
  unfolding field_at others
  argument k = rw (cut_off line).is

  start : (k : ℕ) → start_of line (suc k) ≡ start_in at others k
  unfolding start_in others at
  start k =
      let e : 1 + length (cut_off line).name + 1 ≡ length (cut_off line).name + 2 = omega arith in
      rw ((cut_off line).is, e)

  many : length (fields line) ≡ suc (length others)
  unfolding others
  many = rw (cut_off line).is

  pub leftmost : ((line_fault cast line).refusal ≡ 0 → ⊥) → Leftmost cast line
  leftmost h =
      let i = first cast at others (λ z. h (ap (λ (m : Misspelling). m.refusal) told ∙ z)) in
      record {
        k = i.k;
        there = omega (arith, i.there, many);
        before = λ j b. rw (argument j) (i.before j b);
        what = ap (λ (m : Misspelling). m.refusal) told ∙ i.what ∙ rw (argument i.k);
        place = ap (λ (m : Misspelling). m.place) told ∙ i.place ∙ rw (argument i.k, start i.k);
      }

  pub all_rightly : (line_fault cast line).refusal ≡ 0 → AllRightly cast line
  all_rightly z k b = rw (argument k) (none_faulty cast at others (ap (λ (m : Misspelling). m.refusal) (sym told) ∙ z) k (omega (arith, many)))

  pub rightly_told : AllRightly cast line → line_fault cast line ≡ rightly
  rightly_told h = told ∙ none_told cast at others (λ j b. rw (← (argument j)) (h j (omega (arith, many))))

-- ---- the numbers

number : (f : Fault) → (fault_number f ≡ 0) ⊎ ((9 ≤ fault_number f) × (fault_number f ≤ 11))
number Nothing = inl refl
number TypeSpelling = inr (omega arith, omega arith)
number Lanes = inr (omega arith, omega arith)
number Digit = inr (omega arith, omega arith)

pub field_number : (cast : Bool) (s : List ℕ) → ((field_fault cast s).refusal ≡ 0) ⊎ ((9 ≤ (field_fault cast s).refusal) × ((field_fault cast s).refusal ≤ 11))
unfolding field_fault type_fault
field_number true s = by (is_type (kind_of s))
  where
    by : (t : Bool) → ((cond t rightly (misspelled 9 1)).refusal ≡ 0) ⊎ ((9 ≤ (cond t rightly (misspelled 9 1)).refusal) × ((cond t rightly (misspelled 9 1)).refusal ≤ 11))
    by true = inl refl
    by false = inr (omega arith, omega arith)
field_number false s = number (read_value s).fault

first_number : (cast : Bool) (at : ℕ) (fs : List (List ℕ)) → 2 ≤ at → (first_fault cast at fs ≡ rightly) ⊎ Numbered (first_fault cast at fs)
unfolding first_fault
first_number cast at [] h = inl refl
first_number cast at (f ∷ fs) h = by (eqb (field_fault cast f).refusal 0) refl (first_number false (at + length f + 1) fs) (field_number cast f)
  where
    by : (t : Bool) → eqb (field_fault cast f).refusal 0 ≡ t
        → (2 ≤ at + length f + 1 → (first_fault false (at + length f + 1) fs ≡ rightly) ⊎ Numbered (first_fault false (at + length f + 1) fs))
        → ((field_fault cast f).refusal ≡ 0) ⊎ ((9 ≤ (field_fault cast f).refusal) × ((field_fault cast f).refusal ≤ 11))
        → (cond t (first_fault false (at + length f + 1) fs) (in_line at (field_fault cast f)) ≡ rightly) ⊎ Numbered (cond t (first_fault false (at + length f + 1) fs) (in_line at (field_fault cast f)))
    by true e ih n = ih (omega arith)
    by false e ih (inl z) = absurd (eqb-false _ _ e z)
    by false e ih (inr n) = inr (record { least = n.0; most = n.1; placed = omega arith })

-- a fault that is told has its number and its place
pub numbered : (cast : Bool) (line : List ℕ) → (line_fault cast line ≡ rightly) ⊎ Numbered (line_fault cast line)
unfolding line_fault
numbered cast line = first_number cast (length (field_at line 0) + 2) (drop 1 (fields line)) (omega arith)
