-- What a nested line gives is sound: by induction on its tree, whose arguments are well formed where no call among them is refused and none is misspelled. Assumes nothing.
use Prim.Native.Nat.{ℕ, ◌+◌, ◌<◌, ◌≤◌}
use mathlib.Core.Bool.{Bool, true, false, cond, ◌&&◌, false≢true}
use mathlib.Core.List.{List, [], ◌∷◌}
use mathlib.Core.Logic.{◌⊎◌, inl, inr}
use mathlib.Core.Option.{Option, none, some}
use mathlib.Core.Path.{◌≡◌, refl, ap, sym}
use native.Mathlib.Omega.{arith}
use borrow.Author.Tests.{eqb-true, eqb-false}
use lib.Dec.{eqb, leb}
use lib.ListN.{length, length-append}
use Rattle.readings.specs.declared.Reading.{Reading}
use Rattle.values.specs.declared.Value.{Value}
use Rattle.values.specs.Value.{is_type, well_formed, empty_value}
use Rattle.calls.specs.declared.Builtin.TheVariants.{Bitcast}
use Rattle.calls.specs.declared.Call.{Call}
use Rattle.calls.specs.Table.{takes}
use Rattle.calls.specs.Refuse as Refuse
use Rattle.builtins.specs.Fold.{refused, fold_in}
use Rattle.formed.specs.Answers.{Held}
use Rattle.formed.proofs.Answered.{answers_formed}
use Rattle.buffers.specs.Text.{same_bytes}
use Rattle.spelling.proofs.WrittenSo.{read_lanes_lem}
use Rattle.names.specs.Names.{name_of, builtin_of}
use Rattle.misspellings.specs.declared.Misspelling.{Misspelling}
use Rattle.misspellings.specs.Misspellings.{misspelled, rightly, field_fault, in_line}
use Rattle.misspellings.specs.Laws.{Numbered}
use Rattle.misspellings.proofs.FirstFaulty.{field_number}
use Rattle.misspellings.proofs.Arguments.{fault_most}
use Rattle.nesting.specs.Grammar.{Tree, Trees, spelling, call, last, next, text, texts, depth, is_bitcast, Formed, Formeds, Line}
use Rattle.nesting.specs.Read.{line_tree}
use Rattle.nesting.proofs.Sound.{exactly}
use Rattle.nested.specs.declared.Argument.{Argument}
use Rattle.nested.specs.declared.Arguments.{Arguments}
use Rattle.nested.specs.declared.Folded.{Folded}
use Rattle.nested.specs.Nested.{refused_at, unplaced, told, spelled_type, spelled_value, spelled, of_call, is_frexp, handed, first_of, alone, joined, call_by, judged, argument_of, arguments_of, folded_call, nested_by, nested_of}
use Rattle.nested.specs.Laws.{Placed, Sound}
use Rattle.nested.proofs.Three.{Values, fold_3, fold_most, not_3, value_formed, type_formed}

-- ---- refusals and faults, with places up to k

module _ (k : ℕ) where
  low : (n : ℕ) → n < 9 → (n ≡ 3 → ⊥) → Placed k n 0
  low n h q = record { not_3 = q; most = omega arith; placed = λ i j. absurd (omega arith); below = λ i. refl; above = λ i. refl; within = omega arith }

  high : (n : ℕ) → 11 < n → n ≤ 13 → Placed k n 0
  high n h i = record { not_3 = λ e. omega arith; most = i; placed = λ i j. absurd (omega arith); below = λ i. refl; above = λ i. refl; within = omega arith }

  abbrev pub Faulty : Misspelling → Type 0
  Faulty m = (m.refusal ≡ 0) ⊎ (Numbered m × (m.place ≤ k))

  fault_placed : (m : Misspelling) → Numbered m → m.place ≤ k → Placed k m.refusal m.place
  fault_placed m n h =
      record {
        not_3 = λ e. omega (arith, n.least);
        most = omega (arith, n.most);
        placed = λ i j. n.placed;
        below = λ i. absurd (omega (arith, n.least));
        above = λ i. absurd (omega (arith, n.most));
        within = h;
      }

  pub refused_sound : (n p : ℕ) → Placed k n p → (n ≡ 0 → ⊥) → Sound k (refused_at n p)
  unfolding refused_at refused
  refused_sound n p t z = record { told = t; formed = λ e. absurd (z e) }

  pub seven_sound : Sound k (refused_at 7 0)
  seven_sound = refused_sound 7 0 (low 7 (omega arith) (λ e. omega arith)) (λ e. omega arith)

  -- where 3 is told of a misspelling only
  pub told_sound : (R : Reading) (c : Call) (m : Misspelling) → Held c → Faulty m → (m.refusal ≡ 0 → Refuse.refusal_of c ≡ 3 → ⊥) → Sound k (told (fold_in R c) m)
  unfolding told unplaced
  told_sound R c m h f n = by (eqb (fold_in R c).refusal 3) refl f
    where
      by : (t : Bool) → eqb (fold_in R c).refusal 3 ≡ t → Faulty m → Sound k (cond t (refused_at m.refusal m.place) (unplaced (fold_in R c)))
      by true e (inl z) = absurd (n z (fold_3 R c (eqb-true _ 3 e)))
      by true e (inr q) = refused_sound m.refusal m.place (fault_placed m q.0 q.1) (λ z. omega (arith, q.0.least))
      by false e f = record { told = low (fold_in R c).refusal (omega (arith, fold_most R c)) (eqb-false _ 3 e); formed = answers_formed R c h }

-- ---- arguments

pub record Given (k : ℕ) (cast : Bool) (x : Argument) : Type 0 where
  pub refused : Placed k x.refused.refusal x.refused.place
  pub fault : Faulty k x.fault
  pub typed : x.typed ≡ cast
  pub lanes : x.refused.refusal ≡ 0 → length x.value.lanes ≡ 16
  pub value : cast ≡ false → x.refused.refusal ≡ 0 → x.fault.refusal ≡ 0 → well_formed x.value ≡ true
  pub kind : cast ≡ true → x.fault.refusal ≡ 0 → is_type x.kind ≡ true

abbrev Lanes : Arguments → Type 0
Lanes g = (length g.a.lanes ≡ 16) × (length g.b.lanes ≡ 16) × (length g.c.lanes ≡ 16)

record Givens (k : ℕ) (cast : Bool) (g : Arguments) : Type 0 where
  refused : Placed k g.refused.refusal g.refused.place
  fault : Faulty k g.fault
  lanes : g.refused.refusal ≡ 0 → Lanes g
  values : g.refused.refusal ≡ 0 → g.fault.refusal ≡ 0 → Values cast g.count g.target g.a g.b g.c

module _ (m n : Misspelling) where
  pub first_zero : (first_of m n).refusal ≡ 0 → (m.refusal ≡ 0) × (n.refusal ≡ 0)
  unfolding first_of
  first_zero = by (eqb m.refusal 0) refl
    where
      by : (t : Bool) → eqb m.refusal 0 ≡ t → (cond t n m).refusal ≡ 0 → (m.refusal ≡ 0) × (n.refusal ≡ 0)
      by true e z = (eqb-true _ 0 e, z)
      by false e z = absurd (eqb-false _ 0 e z)

  either : (P : Misspelling → Type 0) → P m → P n → P (first_of m n)
  unfolding first_of
  either P p q = by (eqb m.refusal 0)
    where
      by : (t : Bool) → P (cond t n m)
      by true = q
      by false = p

module _ (k : ℕ) where
  fault_in : (cast : Bool) (at : ℕ) (w : List ℕ) → 1 ≤ at → at + 156 ≤ k → Faulty k (in_line (at + 1) (field_fault cast w))
  fault_in cast at w h i = by (field_number cast w)
    where
      by : ((field_fault cast w).refusal ≡ 0) ⊎ ((9 ≤ (field_fault cast w).refusal) × ((field_fault cast w).refusal ≤ 11)) → Faulty k (in_line (at + 1) (field_fault cast w))
      by (inl z) = inl z
      by (inr n) = inr (record { least = n.0; most = n.1; placed = omega arith }, omega (arith, fault_most cast w))

  spelled_given : (cast : Bool) (at : ℕ) (w : List ℕ) → 1 ≤ at → at + 156 ≤ k → Given k cast (spelled cast at w)
  unfolding spelled spelled_type spelled_value field_fault empty_value
  spelled_given true at w h i =
      record { refused = low k 0 (omega arith) (λ e. omega arith); fault = fault_in true at w h i; typed = refl; lanes = λ z. refl; value = λ e. absurd (false≢true (sym e)); kind = λ e z. type_formed w z }
  spelled_given false at w h i =
      record { refused = low k 0 (omega arith) (λ e. omega arith); fault = fault_in false at w h i; typed = refl; lanes = λ z. read_lanes_lem w; value = λ e z f. value_formed w f; kind = λ e. absurd (false≢true e) }

  handed_given : (w : List ℕ) (y : Folded) → Sound k y → Given k false (handed w y)
  unfolding handed of_call empty_value
  handed_given w y i = by (is_frexp w && eqb y.answer.refusal 0)
    where
      by : (t : Bool) → Given k false (cond t (of_call (misspelled 4 0) empty_value) (of_call (misspelled y.answer.refusal y.place) y.answer.first))
      by true =
          record { refused = low k 4 (omega arith) (λ e. omega arith); fault = inl refl; typed = refl; lanes = λ z. refl; value = λ e z. absurd (omega arith); kind = λ e. absurd (false≢true e) }
      by false =
          record { refused = i.told; fault = inl refl; typed = refl; lanes = λ z. (i.formed z).first.lanes; value = λ e z f. (i.formed z).first.good; kind = λ e. absurd (false≢true e) }

  alone_given : (cast : Bool) (x : Argument) → Given k cast x → Givens k cast (alone x)
  unfolding alone empty_value
  alone_given true x i =
      record {
        refused = i.refused;
        fault = either x.fault rightly (Faulty k) i.fault (inl refl);
        lanes = λ z. (i.lanes z, refl, refl);
        values = λ z f. (λ b. i.kind refl (first_zero x.fault rightly f).0, λ b. absurd (omega arith));
      }
  alone_given false x i =
      record {
        refused = i.refused;
        fault = either x.fault rightly (Faulty k) i.fault (inl refl);
        lanes = λ z. (i.lanes z, refl, refl);
        values = λ z f. (λ b. i.value refl z (first_zero x.fault rightly f).0, λ b. absurd (omega arith), λ b. absurd (omega arith));
      }

  joined_given : (cast : Bool) (x : Argument) (g : Arguments) → Given k cast x → Givens k false g → Givens k cast (joined x g)
  unfolding joined
  joined_given true x g i j =
      record {
        refused = either x.refused g.refused (λ m. Placed k m.refusal m.place) i.refused j.refused;
        fault = either x.fault g.fault (Faulty k) i.fault j.fault;
        lanes = λ z. rw i.typed (j.lanes (first_zero x.refused g.refused z).1);
        values = λ z f.
            let p = first_zero x.refused g.refused z in
            let q = first_zero x.fault g.fault f in
            rw i.typed (λ b. i.kind refl q.0, λ b. (j.values p.1 q.1).0 (omega arith));
      }
  joined_given false x g i j =
      record {
        refused = either x.refused g.refused (λ m. Placed k m.refusal m.place) i.refused j.refused;
        fault = either x.fault g.fault (Faulty k) i.fault j.fault;
        lanes = λ z.
            let p = first_zero x.refused g.refused z in
            rw i.typed (i.lanes p.0, (j.lanes p.1).0, (j.lanes p.1).1);
        values = λ z f.
            let p = first_zero x.refused g.refused z in
            let q = first_zero x.fault g.fault f in
            rw i.typed (λ b. i.value refl p.0 q.0, λ b. (j.values p.1 q.1).0 (omega arith), λ b. (j.values p.1 q.1).1 (omega arith));
      }

-- ---- a call

module _ (w : List ℕ) (g : Arguments) where
  held : Lanes g → Held (call_by w g)
  unfolding call_by empty_value
  held l = record { a = l.0; b = by (is_bitcast w) g.b l.1; c = by (is_bitcast w) g.c l.2 }
    where
      by : (t : Bool) (v : Value) → length v.lanes ≡ 16 → length (cond t empty_value v).lanes ≡ 16
      by true v h = refl
      by false v h = h

  call_not_3 : Values (is_bitcast w) g.count g.target g.a g.b g.c → Refuse.refusal_of (call_by w g) ≡ 3 → ⊥
  unfolding call_by is_bitcast
  call_not_3 = by (same_bytes (name_of Bitcast) w) refl
    where
      by : (t : Bool) → same_bytes (name_of Bitcast) w ≡ t → Values t g.count g.target g.a g.b g.c
          → Refuse.judged (takes (builtin_of w)) g.count g.target g.a (cond t empty_value g.b) (cond t empty_value g.c) ≡ 3 → ⊥
      by true q v e = not_3 g.count g.target g.a empty_value empty_value w true q v e
      by false q v e = not_3 g.count g.target g.a g.b g.c w false q v e

judged_sound : (k : ℕ) (R : Reading) (w : List ℕ) (g : Arguments) → Givens k (is_bitcast w) g → Sound k (judged R w g)
unfolding judged
judged_sound k R w g i = by (eqb g.refused.refusal 0) refl
  where
    by : (t : Bool) → eqb g.refused.refusal 0 ≡ t → Sound k (cond t (told (fold_in R (call_by w g)) g.fault) (refused_at g.refused.refusal g.refused.place))
    by true e =
        let z = eqb-true _ 0 e in
        told_sound k R (call_by w g) g.fault (held w g (i.lanes z)) i.fault (λ f. call_not_3 w g (i.values z f))
    by false e = refused_sound k g.refused.refusal g.refused.place i.refused (eqb-false _ 0 e)

-- ---- trees, and a line

module _ (k : ℕ) (R : Reading) where
  mutual
    unfolding argument_of Formed text

    pub argument_sound : (t : Tree) (cast : Bool) (at : ℕ) → Formed t cast → 1 ≤ at → at + length (text t) + 156 ≤ k → Given k cast (argument_of R cast at t)
    argument_sound (spelling w) cast at f h i = spelled_given k cast at w h (omega arith)
    argument_sound (call w a) cast at f h i =
        rw f.0 (handed_given k w (judged R w (arguments_of R (is_bitcast w) (at + length w + 1) a)) (judged_sound k R w (arguments_of R (is_bitcast w) (at + length w + 1) a)
        (arguments_sound a (is_bitcast w) (at + length w + 1) f.2 (omega arith) (omega (arith, length-append w (40 ∷ texts a))))))

    arguments_sound : (a : Trees) (cast : Bool) (at : ℕ) → Formeds a cast → 1 ≤ at → at + length (texts a) + 156 ≤ k → Givens k cast (arguments_of R cast at a)
    arguments_sound (last t) cast at f h i =
        alone_given k cast (argument_of R cast at t) (argument_sound t cast at f h (omega (arith, length-append (text t) (41 ∷ []))))
    arguments_sound (next t a) cast at f h i =
        joined_given k cast (argument_of R cast at t) (arguments_of R false (at + length (text t) + 1) a)
        (argument_sound t cast at f.0 h (omega (arith, length-append (text t) (59 ∷ texts a))))
        (arguments_sound a false (at + length (text t) + 1) f.1 (omega arith) (omega (arith, length-append (text t) (59 ∷ texts a))))

pub nested_sound : (k : ℕ) (R : Reading) (l : List ℕ) → length l + 156 ≤ k → Sound k (nested_of R l)
unfolding nested_of Formed text
nested_sound k R l h = by (line_tree l) (λ t e. (exactly l t).0 e)
  where
    deep : (t : Tree) (b : Bool) → Line l t → Sound k (cond b (folded_call R t) (refused_at 13 0))
    deep t false i = refused_sound k 13 0 (high k 13 (omega arith) (omega arith)) (λ e. omega arith)
    deep (spelling w) true i = absurd (false≢true i.one)
    deep (call w a) true i =
        judged_sound k R w (arguments_of R (is_bitcast w) (length w + 1) a)
        (arguments_sound k R a (is_bitcast w) (length w + 1) i.formed.2 (omega arith) (omega (arith, ap length i.whole, length-append w (40 ∷ texts a))))

    by : (o : Option Tree) → ((t : Tree) → o ≡ some t → Line l t) → Sound k (nested_by R o)
    by none h = refused_sound k 12 0 (high k 12 (omega arith) (omega arith)) (λ e. omega arith)
    by (some t) h = deep t (leb (depth t) 8) (h t refl)
