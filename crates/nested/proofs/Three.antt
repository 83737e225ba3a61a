-- A call is refused by 3 only where bitcast's type is none, or a value among those that it counts is not well formed: by the rows of 01's table. What is spelled without a fault is well formed. Assumes nothing.
use Prim.Native.Nat.{ℕ, zero, suc, ◌<◌, ◌≤◌}
use mathlib.Core.Bool.{Bool, true, false, cond, false≢true}
use mathlib.Core.List.{List}
use mathlib.Core.Logic.{⊎_elim}
use mathlib.Core.Path.{◌≡◌, refl, ap, sym, ◌∙◌}
use native.Mathlib.Omega.{arith}
use borrow.Author.Tests.{eqb-true, leb-true}
use lib.Dec.{eqb, leb}
use Rattle.readings.specs.declared.Reading.{Reading}
use Rattle.values.specs.declared.Kind.{Kind}
use Rattle.values.specs.declared.Value.{Value}
use Rattle.values.specs.Value.{is_type, well_formed}
use Rattle.values.proofs.Bools.{and}
use Rattle.calls.specs.declared.Builtin.{Builtin}
use Rattle.calls.specs.declared.Builtin.TheVariants.{Bitcast, Unknown}
use Rattle.calls.specs.declared.Call.{Call}
use Rattle.calls.specs.Table.{Row, Absent, Unary, Binary, Ternary, Cast, takes, builtins}
use Rattle.calls.specs.Refuse.{refusal_of, in_table, arity, formed, taken_alone, taken_together, sized, first_of, judged}
use Rattle.builtins.specs.Fold.{refused, answered, answered_twice, answered_losing, answer_by, fold_by, fold_in}
use Rattle.buffers.specs.Text.{same_bytes}
use Rattle.buffers.proofs.Lookup.{found, same_true, same_itself}
use Rattle.spelling.specs.declared.Fault.{Fault}
use Rattle.spelling.specs.declared.Fault.TheVariants.{Nothing, TypeSpelling, Lanes, Digit}
use Rattle.spelling.specs.Types.{kind_of}
use Rattle.spelling.specs.Read.{fault_number, read_value}
use Rattle.spelling.proofs.WrittenSo.{written_so}
use Rattle.names.specs.Names.{name_of, builtin_of}
use Rattle.names.proofs.NameSlots.{each_builtin, found_named}
use Rattle.misspellings.specs.Misspellings.{misspelled, rightly, type_fault, field_fault}

-- ---- what is rightly spelled

pub no_fault : (f : Fault) → fault_number f ≡ 0 → f ≡ Nothing
no_fault Nothing e = refl
no_fault TypeSpelling e = absurd (omega arith)
no_fault Lanes e = absurd (omega arith)
no_fault Digit e = absurd (omega arith)

pub value_formed : (s : List ℕ) → (field_fault false s).refusal ≡ 0 → well_formed (read_value s).value ≡ true
unfolding field_fault
value_formed s e = (written_so s (no_fault (read_value s).fault e)).formed

pub type_formed : (s : List ℕ) → (field_fault true s).refusal ≡ 0 → is_type (kind_of s) ≡ true
unfolding field_fault type_fault
type_formed s = by (is_type (kind_of s))
  where
    by : (t : Bool) → (cond t rightly (misspelled 9 1)).refusal ≡ 0 → t ≡ true
    by true e = refl
    by false e = absurd (omega arith)

-- ---- a call that is refused by 3

three : (k n f a t s : Bool) → first_of k n f a t s ≡ 3 → (n ≡ true) × (f ≡ false)
three false n f a t s e = absurd (omega arith)
three true false f a t s e = absurd (omega arith)
three true true false a t s e = (refl, refl)
three true true true false t s e = absurd (omega arith)
three true true true true false s e = absurd (omega arith)
three true true true true true false e = absurd (omega arith)
three true true true true true true e = absurd (omega arith)

at_most_6 : (k n f a t s : Bool) → first_of k n f a t s ≤ 6
at_most_6 false n f a t s = omega arith
at_most_6 true false f a t s = omega arith
at_most_6 true true false a t s = omega arith
at_most_6 true true true false t s = omega arith
at_most_6 true true true true false s = omega arith
at_most_6 true true true true true false = omega arith
at_most_6 true true true true true true = omega arith

module _ (row : Row) (n : ℕ) (t : Kind) (a b c : Value) where
  judged_3 : judged row n t a b c ≡ 3 → (n ≡ arity row) × (formed row t a b c ≡ false)
  unfolding judged
  judged_3 e =
      let h = three (in_table row) (eqb n (arity row)) (formed row t a b c) (taken_alone row t a.kind b.kind c.kind) (taken_together row a.kind b.kind c.kind) (sized row t a.kind) e in
      (eqb-true n (arity row) h.0, h.1)

  judged_most : judged row n t a b c ≤ 6
  unfolding judged
  judged_most = at_most_6 (in_table row) (eqb n (arity row)) (formed row t a b c) (taken_alone row t a.kind b.kind c.kind) (taken_together row a.kind b.kind c.kind) (sized row t a.kind)

-- what a builtin answers has no refusal, but Unknown's 1
answer_most : (R : Reading) (which : Builtin) (t : Kind) (a b c : Value) → (answer_by R which t a b c).refusal ≤ 1
unfolding answered answered_twice answered_losing refused
answer_most R which t a b c = leb-true _ 1 (each_builtin (λ w. leb (answer_by R w t a b c).refusal 1) refl which)

by_3 : (R : Reading) (m : ℕ) (c : Call) → (fold_by R m c).refusal ≡ 3 → m ≡ 3
unfolding refused
by_3 R zero c e = absurd (omega (arith, e, answer_most R c.builtin c.target c.a c.b c.c))
by_3 R (suc m) c e = e

by_most : (R : Reading) (m : ℕ) (c : Call) → m ≤ 6 → (fold_by R m c).refusal ≤ 6
unfolding refused
by_most R zero c h = omega (arith, answer_most R c.builtin c.target c.a c.b c.c)
by_most R (suc m) c h = h

pub fold_3 : (R : Reading) (c : Call) → (fold_in R c).refusal ≡ 3 → refusal_of c ≡ 3
unfolding fold_in
fold_3 R c e = by_3 R (refusal_of c) c e

pub fold_most : (R : Reading) (c : Call) → (fold_in R c).refusal ≤ 6
unfolding fold_in
fold_most R c = by_most R (refusal_of c) c (judged_most (takes c.builtin) c.count c.target c.a c.b c.c)

-- ---- only bitcast's row has a type

is_cast_row : Row → Bool
is_cast_row Absent = false
is_cast_row (Unary p) = false
is_cast_row (Binary p q m) = false
is_cast_row (Ternary p q r m) = false
is_cast_row (Cast p) = true

only_bitcast : (b : Builtin) → cond (is_cast_row (takes b)) (same_bytes (name_of b) (name_of Bitcast)) true ≡ true
unfolding is_cast_row same_bytes
only_bitcast b = each_builtin (λ w. cond (is_cast_row (takes w)) (same_bytes (name_of w) (name_of Bitcast)) true) refl b

not_cast : (s : List ℕ) → same_bytes (name_of Bitcast) s ≡ false → is_cast_row (takes (builtin_of s)) ≡ false
unfolding builtin_of is_cast_row
not_cast s n =
    ⊎_elim (λ e. rw e) (λ e. by (is_cast_row (takes (builtin_of s))) e (only_bitcast (builtin_of s))) (found name_of Unknown builtins s)
  where
    by : (t : Bool) → s ≡ name_of (builtin_of s) → cond t (same_bytes (name_of (builtin_of s)) (name_of Bitcast)) true ≡ true → t ≡ false
    by false e c = refl
    by true e c =
        let q : s ≡ name_of Bitcast = e ∙ same_true (name_of (builtin_of s)) (name_of Bitcast) c in
        absurd (false≢true (sym n ∙ rw q (same_itself (name_of Bitcast))))

-- ---- of a call, bitcast's where `cast`: what it counts is well formed

abbrev pub Values : Bool → ℕ → Kind → Value → Value → Value → Type 0
Values false n t a b c = (0 < n → well_formed a ≡ true) × (1 < n → well_formed b ≡ true) × (2 < n → well_formed c ≡ true)
Values true n t a b c = (0 < n → is_type t ≡ true) × (1 < n → well_formed a ≡ true)

module _ (n : ℕ) (t : Kind) (a b c : Value) where
  plain_formed : (row : Row) → Values false n t a b c → is_cast_row row ≡ false → n ≡ arity row → formed row t a b c ≡ true
  unfolding is_cast_row
  plain_formed Absent v i e = refl
  plain_formed (Unary p) v i e = v.0 (omega arith)
  plain_formed (Binary p q m) v i e = and (v.0 (omega arith)) (v.1 (omega arith))
  plain_formed (Ternary p q r m) v i e = and (and (v.0 (omega arith)) (v.1 (omega arith))) (v.2 (omega arith))
  plain_formed (Cast p) v i e = absurd (false≢true (sym i))

  pub not_3 : (w : List ℕ) (cast : Bool) → same_bytes (name_of Bitcast) w ≡ cast → Values cast n t a b c → judged (takes (builtin_of w)) n t a b c ≡ 3 → ⊥
  not_3 w true i v e =
      let q : builtin_of w ≡ Bitcast = ap builtin_of (sym (same_true (name_of Bitcast) w i)) ∙ found_named Bitcast in
      let j = judged_3 (takes Bitcast) n t a b c (rw q at e) in
      false≢true (sym j.1 ∙ and (v.0 (omega arith)) (v.1 (omega arith)))
  not_3 w false i v e =
      let row = takes (builtin_of w) in
      let j = judged_3 row n t a b c e in
      false≢true (sym j.1 ∙ plain_formed row v (not_cast w i) j.0)
