-- A call that a line spells is refused by 3 only where an argument of the line is misspelled: else each value was read without a fault and so is well formed, and bitcast's type is one.
-- So what is told in 3's place is a fault with its number and its place. Assumes nothing.
use Prim.Native.Nat.{ℕ, zero, suc, ◌<◌, ◌≤◌}
use mathlib.Core.Bool.{Bool, true, false, cond, false≢true}
use mathlib.Core.List.{List}
use mathlib.Core.Logic.{⊎_elim}
use mathlib.Core.Path.{◌≡◌, refl, ap, sym, ◌∙◌}
use native.Mathlib.Omega.{arith}
use borrow.Author.Tests.{eqb-true, eqb-false, leb-true}
use lib.Dec.{eqb, ltb, leb}
use lib.ListN.{length}
use Rattle.readings.specs.declared.Reading.{Reading}
use Rattle.values.specs.declared.Kind.{Kind}
use Rattle.values.specs.declared.Kind.TheVariants.{Empty}
use Rattle.values.specs.declared.Value.{Value}
use Rattle.values.specs.Value.{is_type, well_formed, empty_value}
use Rattle.values.proofs.Bools.{and}
use Rattle.calls.specs.declared.Builtin.{Builtin}
use Rattle.calls.specs.declared.Builtin.TheVariants.{Bitcast, Unknown}
use Rattle.calls.specs.declared.Call.{Call}
use Rattle.calls.specs.Table.{Row, Absent, Unary, Binary, Ternary, Cast, takes}
use Rattle.calls.specs.Refuse as Refuse
use Rattle.calls.specs.Refuse.{in_table, arity, formed, taken_alone, taken_together, sized, first_of, judged}
use Rattle.builtins.specs.Fold.{refused, answered, answered_twice, answered_losing, answer_by, fold_by, fold_in}
use Rattle.buffers.specs.Text.{same_bytes}
use Rattle.buffers.proofs.Lookup.{found, same_true, same_itself}
use Rattle.spelling.specs.declared.Fault.{Fault}
use Rattle.spelling.specs.declared.Fault.TheVariants.{Nothing, TypeSpelling, Lanes, Digit}
use Rattle.spelling.specs.Types.{kind_of}
use Rattle.spelling.specs.Read.{fault_number, read_value}
use Rattle.spelling.proofs.WrittenSo.{written_so}
use Rattle.names.specs.Names.{name_of, builtin_of}
use Rattle.names.proofs.NameSlots.{each_builtin, found_named}
use Rattle.calls.specs.Table.{builtins}
use Rattle.fields.specs.Fields.{field_at, argument_count}
use Rattle.fields.proofs.Tabs.{field_count}
use Rattle.cutting.specs.Cutting.{most_bytes}
use Rattle.misspellings.specs.declared.Misspelling.{Misspelling}
use Rattle.misspellings.specs.Misspellings.{misspelled, rightly, type_fault, field_fault}
use Rattle.misspellings.specs.Laws.{cast_at, AllRightly, Numbered}
use Rattle.misspellings.proofs.FirstFaulty.{only_first, all_rightly, numbered}
use Rattle.lines.specs.Line.{value_at, type_at, is_cast, plain_call, cast_call, call_of, line_of, fault_of, refusal_of, fault_place}
use Rattle.lines.specs.Laws.{Told}

-- ---- arguments that are rightly spelled

no_fault : (f : Fault) → fault_number f ≡ 0 → f ≡ Nothing
no_fault Nothing e = refl
no_fault TypeSpelling e = absurd (omega arith)
no_fault Lanes e = absurd (omega arith)
no_fault Digit e = absurd (omega arith)

value_formed : (s : List ℕ) → (field_fault false s).refusal ≡ 0 → well_formed (read_value s).value ≡ true
unfolding field_fault
value_formed s e = (written_so s (no_fault (read_value s).fault e)).formed

type_formed : (s : List ℕ) → (field_fault true s).refusal ≡ 0 → is_type (kind_of s) ≡ true
unfolding field_fault type_fault
type_formed s = by (is_type (kind_of s))
  where
    by : (t : Bool) → (cond t rightly (misspelled 9 1)).refusal ≡ 0 → t ≡ true
    by true e = refl
    by false e = absurd (omega arith)

-- of a line whose first argument is a type where `cast`
module _ (cast : Bool) (line : List ℕ) (h : AllRightly cast line) where
  right : (k : ℕ) → k < argument_count line → (field_fault (cast_at cast k) (field_at line (suc k))).refusal ≡ 0
  right k b = h k (omega (arith, field_count line))

plain_value : (line : List ℕ) → AllRightly false line → (k : ℕ) → k < argument_count line → well_formed (value_at line (suc k)) ≡ true
plain_value line h k b = value_formed (field_at line (suc k)) (rw (only_first k) at (right false line h k b))

-- ---- no call of such a line has an argument that is not well formed

is_cast_row : Row → Bool
is_cast_row Absent = false
is_cast_row (Unary p) = false
is_cast_row (Binary p q m) = false
is_cast_row (Ternary p q r m) = false
is_cast_row (Cast p) = true

plain_formed : (line : List ℕ) → AllRightly false line → (row : Row) → is_cast_row row ≡ false → argument_count line ≡ arity row
    → formed row Empty (value_at line 1) (value_at line 2) (value_at line 3) ≡ true
unfolding is_cast_row
plain_formed line h Absent n e = refl
plain_formed line h (Unary p) n e = plain_value line h 0 (omega arith)
plain_formed line h (Binary p q m) n e = and (plain_value line h 0 (omega arith)) (plain_value line h 1 (omega arith))
plain_formed line h (Ternary p q r m) n e =
    and (and (plain_value line h 0 (omega arith)) (plain_value line h 1 (omega arith))) (plain_value line h 2 (omega arith))
plain_formed line h (Cast p) n e = absurd (false≢true (sym n))

cast_formed : (line : List ℕ) → AllRightly true line → 2 ≤ argument_count line → is_type (type_at line 1) ≡ true → well_formed (value_at line 2) ≡ true
cast_formed line h b t = value_formed (field_at line 2) (right true line h 1 (omega arith))

-- ---- only bitcast's row has a type

only_bitcast : (b : Builtin) → cond (is_cast_row (takes b)) (same_bytes (name_of b) (name_of Bitcast)) true ≡ true
unfolding is_cast_row same_bytes
only_bitcast b = each_builtin (λ w. cond (is_cast_row (takes w)) (same_bytes (name_of w) (name_of Bitcast)) true) refl b

not_cast : (s : List ℕ) → same_bytes (name_of Bitcast) s ≡ false → is_cast_row (takes (builtin_of s)) ≡ false
unfolding builtin_of is_cast_row
not_cast s n =
    ⊎_elim (λ e. rw e) (λ e. by (is_cast_row (takes (builtin_of s))) e (only_bitcast (builtin_of s))) (found name_of Unknown builtins s)
  where
    by : (t : Bool) → s ≡ name_of (builtin_of s) → cond t (same_bytes (name_of (builtin_of s)) (name_of Bitcast)) true ≡ true → t ≡ false
    by false e c = refl
    by true e c =
        let q : s ≡ name_of Bitcast = e ∙ same_true (name_of (builtin_of s)) (name_of Bitcast) c in
        absurd (false≢true (sym n ∙ rw q (same_itself (name_of Bitcast))))

-- ---- a call that is refused by 3

three : (k n f a t s : Bool) → first_of k n f a t s ≡ 3 → (n ≡ true) × (f ≡ false)
three false n f a t s e = absurd (omega arith)
three true false f a t s e = absurd (omega arith)
three true true false a t s e = (refl, refl)
three true true true false t s e = absurd (omega arith)
three true true true true false s e = absurd (omega arith)
three true true true true true false e = absurd (omega arith)
three true true true true true true e = absurd (omega arith)

at_most_6 : (k n f a t s : Bool) → first_of k n f a t s ≤ 6
at_most_6 false n f a t s = omega arith
at_most_6 true false f a t s = omega arith
at_most_6 true true false a t s = omega arith
at_most_6 true true true false t s = omega arith
at_most_6 true true true true false s = omega arith
at_most_6 true true true true true false = omega arith
at_most_6 true true true true true true = omega arith

module _ (row : Row) (n : ℕ) (t : Kind) (a b c : Value) where
  judged_3 : judged row n t a b c ≡ 3 → (n ≡ arity row) × (formed row t a b c ≡ false)
  unfolding judged
  judged_3 e =
      let h = three (in_table row) (eqb n (arity row)) (formed row t a b c) (taken_alone row t a.kind b.kind c.kind) (taken_together row a.kind b.kind c.kind) (sized row t a.kind) e in
      (eqb-true n (arity row) h.0, h.1)

  judged_most : judged row n t a b c ≤ 6
  unfolding judged
  judged_most = at_most_6 (in_table row) (eqb n (arity row)) (formed row t a b c) (taken_alone row t a.kind b.kind c.kind) (taken_together row a.kind b.kind c.kind) (sized row t a.kind)

-- what a builtin answers has no refusal, but Unknown's 1
answer_most : (R : Reading) (which : Builtin) (t : Kind) (a b c : Value) → (answer_by R which t a b c).refusal ≤ 1
unfolding answered answered_twice answered_losing refused
answer_most R which t a b c = leb-true _ 1 (each_builtin (λ w. leb (answer_by R w t a b c).refusal 1) refl which)

fold_3 : (R : Reading) (m : ℕ) (c : Call) → (fold_by R m c).refusal ≡ 3 → m ≡ 3
unfolding refused
fold_3 R zero c e = absurd (omega (arith, e, answer_most R c.builtin c.target c.a c.b c.c))
fold_3 R (suc m) c e = e

fold_most : (R : Reading) (m : ℕ) (c : Call) → m ≤ 6 → (fold_by R m c).refusal ≤ 6
unfolding refused
fold_most R zero c h = omega (arith, answer_most R c.builtin c.target c.a c.b c.c)
fold_most R (suc m) c h = h

-- ---- and a line

module _ (R : Reading) (line : List ℕ) where
  line_3 : (line_of R line).refusal ≡ 3 → Refuse.refusal_of (call_of line) ≡ 3
  unfolding line_of refused fold_in
  line_3 = by (ltb most_bytes (length line))
    where
      by : (t : Bool) → (cond t (refused 7) (fold_in R (call_of line))).refusal ≡ 3 → Refuse.refusal_of (call_of line) ≡ 3
      by true e = absurd (omega arith)
      by false e = fold_3 R (Refuse.refusal_of (call_of line)) (call_of line) e

  line_most : (line_of R line).refusal ≤ 7
  unfolding line_of refused fold_in
  line_most = by (ltb most_bytes (length line))
    where
      by : (t : Bool) → (cond t (refused 7) (fold_in R (call_of line))).refusal ≤ 7
      by true = omega arith
      by false =
          let c = call_of line in
          omega (arith, fold_most R (Refuse.refusal_of c) c (judged_most (takes c.builtin) c.count c.target c.a c.b c.c))

  rightly_not_3 : AllRightly (is_cast line) line → Refuse.refusal_of (call_of line) ≡ 3 → ⊥
  unfolding call_of cast_call plain_call
  rightly_not_3 h e = by (is_cast line) refl h e
    where
      name : List ℕ
      name = field_at line 0

      by : (t : Bool) → is_cast line ≡ t → AllRightly t line
          → Refuse.refusal_of (cond t (cast_call (builtin_of (field_at line 0)) (argument_count line) line) (plain_call (builtin_of (field_at line 0)) (argument_count line) line)) ≡ 3 → ⊥
      by true i h e =
          let b : builtin_of (field_at line 0) ≡ Bitcast = ap builtin_of (sym (same_true (name_of Bitcast) (field_at line 0) i)) ∙ found_named Bitcast in
          let j = judged_3 (takes Bitcast) (argument_count line) (type_at line 1) (value_at line 2) empty_value empty_value (rw b at e) in
          let t = type_formed (field_at line 1) (right true line h 0 (omega arith)) in
          false≢true (sym j.1 ∙ and t (cast_formed line h (omega arith) t))
      by false i h e =
          let row = takes (builtin_of (field_at line 0)) in
          let j = judged_3 row (argument_count line) Empty (value_at line 1) (value_at line 2) (value_at line 3) e in
          false≢true (sym j.1 ∙ plain_formed line h row (not_cast (field_at line 0) i) j.0)

  -- what is told in 3's place has its number and its place
  pub three_misspelled : (line_of R line).refusal ≡ 3 → Numbered (fault_of line)
  three_misspelled e =
      ⊎_elim (λ r. absurd (rightly_not_3 (all_rightly (is_cast line) line (ap (λ (m : Misspelling). m.refusal) r)) (line_3 e))) (λ n. n) (numbered (is_cast line) line)

  pub none_told : refusal_of R line ≡ 0 → (line_of R line).refusal ≡ 0
  unfolding refusal_of
  none_told = by (eqb (line_of R line).refusal 3) refl
    where
      by : (t : Bool) → eqb (line_of R line).refusal 3 ≡ t → cond t (fault_of line).refusal (line_of R line).refusal ≡ 0 → (line_of R line).refusal ≡ 0
      by true e z = let n = three_misspelled (eqb-true _ 3 e) in absurd (omega (arith, n.least))
      by false e z = z

  pub told : Told R line
  unfolding refusal_of fault_place
  told = by (eqb (line_of R line).refusal 3) refl
    where
      by : (t : Bool) → eqb (line_of R line).refusal 3 ≡ t → Told R line
      by true e =
          let n = three_misspelled (eqb-true _ 3 e) in
          record {
            not_3 = rw e (λ z. omega (arith, n.least));
            most = rw e n.most;
            rightly = rw e (λ h. absurd (rightly_not_3 h (line_3 (eqb-true _ 3 e))));
            placed = rw e (λ h. n.placed);
            unplaced = rw e (λ h. absurd (omega (arith, n.least)));
          }
      by false e =
          record {
            not_3 = rw e (eqb-false _ 3 e);
            most = rw e (omega (arith, line_most));
            rightly = rw e (λ h. omega (arith, line_most));
            placed = rw e (λ h. absurd (omega (arith, line_most)));
            unplaced = rw e (λ h. refl);
          }
