-- What the tests of two answers say of their lanes: where one fails, some lane differs in that way, found by trying each; and values with the same lanes are one, so that lines that differ have a lane that does. Assumes nothing.
use Prim.Native.Nat.{ℕ, zero, suc, ◌<◌}
use mathlib.Core.Bool.{Bool, true, false, ◌&&◌}
use mathlib.Core.List.{List, map-id}
use mathlib.Core.Logic.{◌⊎◌, inl, inr}
use mathlib.Core.Path.{◌≡◌, refl, sym, ap, ◌∙◌}
use native.Mathlib.Omega.{arith}
use borrow.Author.Count.{below_more}
use borrow.Author.Tests.{eqb-true, eqb-false, eq-eqb}
use lib.Dec.{eqb}
use lib.ListN.{length, take}
use Rattle.values.specs.Value.{scalar_of, lane_count, place, lanes_of, lane, value, empty_value, Formed}
use Rattle.values.specs.declared.Scalar.{Scalar}
use Rattle.values.specs.declared.Value.{Value}
use Rattle.values.proofs.Bools.{both, and}
use Rattle.values.proofs.Formed.{whole}
use Rattle.values.proofs.Places.{placed, lanes_at_most_16}
use Rattle.buffers.proofs.Lookup.{same_true, not_same}
use Rattle.listings.specs.declared.Answered.{Answered}
use Rattle.listings.specs.Answers.{read_answer}
use Rattle.listings.proofs.AnswerValues.{values_formed}
use Rattle.kinds.specs.Kinds.{normal_lane, same_lanes, same_types, same_answers}
use Rattle.kinds.specs.Laws.{SameTypes, LaneOf, SomeLane, Answers}
use Rattle.kinds.proofs.Lanes.{lane_same, lanes_same}
use Rattle.kinds.proofs.LaneKinds.{Differs}

-- ---- types

pub types_told : (a b : Answered) → same_types a b ≡ true → SameTypes a b
unfolding same_types
types_told a b t =
    let p = both (eqb (place a.first.kind) (place b.first.kind)) (eqb (place a.second.kind) (place b.second.kind)) t in (
      placed (eqb-true (place a.first.kind) (place b.first.kind) p.0) ∙ sym (placed refl),
      placed (eqb-true (place a.second.kind) (place b.second.kind) p.1) ∙ sym (placed refl),
    )

pub types_tested : (a b : Answered) → SameTypes a b → same_types a b ≡ true
unfolding same_types
types_tested a b e = and (eq-eqb _ _ (ap place e.0)) (eq-eqb _ _ (ap place e.1))

-- ---- lanes

-- two rows of numbers are the same, or apart at some place
tried : (f g : ℕ → ℕ) (n : ℕ) → ((i : ℕ) → i < n → f i ≡ g i) ⊎ ((i : ℕ) × (i < n) × (f i ≡ g i → ⊥))
tried f g zero = inl (λ i h. absurd (omega arith))
tried f g (suc n) = by (tried f g n) (eqb (f n) (g n)) refl
  where
    by : ((i : ℕ) → i < n → f i ≡ g i) ⊎ ((i : ℕ) × (i < n) × (f i ≡ g i → ⊥)) → (b : Bool) → eqb (f n) (g n) ≡ b
        → ((i : ℕ) → i < suc n → f i ≡ g i) ⊎ ((i : ℕ) × (i < suc n) × (f i ≡ g i → ⊥))
    by (inr (i, h, d)) b t = inr (i, omega arith, d)
    by (inl e) false t = inr (n, omega arith, eqb-false (f n) (g n) t)
    by (inl e) true t = inl (λ i h. below_more (λ k. f k ≡ g k) n e (eqb-true (f n) (g n) t) i (omega arith))

-- values that an answer has
record Held (v : Value) : Type 0 where
  lanes : length v.lanes ≡ 16
  again : value v.kind (lanes_of v) ≡ v

no_value : Held empty_value
unfolding value empty_value
no_value = record { lanes = refl; again = refl }

a_value : (v : Value) → Formed v → Held v
a_value v f = record { lanes = f.lanes; again = whole v f.good f.lanes }

module _ (nans : Bool) (v w : Value) where
  none_of : same_lanes nans v w ≡ true → LaneOf (Differs nans) v w → ⊥
  unfolding same_lanes
  none_of t (i, h, d) = d (lane_same (normal_lane nans (scalar_of v.kind)) (lane_count v.kind) v.lanes w.lanes (same_true _ _ t) i h)

  some_of : Held v → Held w → same_lanes nans v w ≡ false → LaneOf (Differs nans) v w
  unfolding same_lanes
  some_of p q t = elim (tried (λ i. normal_lane nans (scalar_of v.kind) (lane v i)) (λ i. normal_lane nans (scalar_of v.kind) (lane w i)) (lane_count v.kind)) [
    | inl e ↦
        let n = lanes_at_most_16 v.kind in
        absurd (not_same _ _ t (lanes_same (normal_lane nans (scalar_of v.kind)) (lane_count v.kind) v.lanes w.lanes (omega (arith, p.lanes)) (omega (arith, q.lanes)) e))
    | inr d ↦ d
  ]

-- ---- answers

pub record Holds (a : Answered) : Type 0 where
  first : Held a.first
  second : Held a.second

module _ (nans : Bool) (a b : Answered) where
  pub none_differs : same_answers nans a b ≡ true → SomeLane (Differs nans) a b → ⊥
  unfolding same_answers
  none_differs t (inl d) = none_of nans a.first b.first (both (same_lanes nans a.first b.first) (same_lanes nans a.second b.second) t).0 d
  none_differs t (inr d) = none_of nans a.second b.second (both (same_lanes nans a.first b.first) (same_lanes nans a.second b.second) t).1 d

  pub some_differs : Holds a → Holds b → same_answers nans a b ≡ false → SomeLane (Differs nans) a b
  unfolding same_answers
  some_differs p q = by (same_lanes nans a.first b.first) refl
    where
      by : (x : Bool) → same_lanes nans a.first b.first ≡ x → x && same_lanes nans a.second b.second ≡ false → SomeLane (Differs nans) a b
      by true s t = inr (some_of nans a.second b.second p.second q.second t)
      by false s t = inl (some_of nans a.first b.first p.first q.first s)

module _ (a b : Answered) (P Q : Scalar → ℕ → ℕ → Type 0) where
  pub some_as : ((s : Scalar) (x y : ℕ) → P s x y → Q s x y) → SomeLane P a b → SomeLane Q a b
  some_as f (inl (i, h, p)) = inl (i, h, f _ _ _ p)
  some_as f (inr (i, h, p)) = inr (i, h, f _ _ _ p)

  pub some_either : SomeLane (λ s x y. P s x y ⊎ Q s x y) a b → SomeLane P a b ⊎ SomeLane Q a b
  some_either (inl (i, h, inl p)) = inl (inl (i, h, p))
  some_either (inl (i, h, inr q)) = inr (inl (i, h, q))
  some_either (inr (i, h, inl p)) = inl (inr (i, h, p))
  some_either (inr (i, h, inr q)) = inr (inr (i, h, q))

-- ---- lines

pub holds : (l : List ℕ) → Answers l → Holds (read_answer l)
holds l q =
    let f = values_formed l q.ok q.answered in
    record {
      first = a_value (read_answer l).first f.0;
      second = elim f.1 [
        | inl e ↦ rw e no_value
        | inr g ↦ a_value (read_answer l).second g.0
      ];
    }

-- values of one type with the same lanes are one
one_value : (v w : Value) → Held v → Held w → v.kind ≡ w.kind → ((i : ℕ) → i < lane_count v.kind → lane v i ≡ lane w i) → v ≡ w
one_value v w p q k e =
    let n = lanes_at_most_16 v.kind in
    let m = lane_count v.kind in
    let s : take m v.lanes ≡ take m w.lanes
    = sym (map-id _) ∙ lanes_same (λ x. x) m v.lanes w.lanes (omega (arith, p.lanes)) (omega (arith, q.lanes)) e ∙ map-id _ in
    sym p.again ∙ rw s (rw k q.again)

-- lines of one type that are not the same to the byte differ in some lane
pub some_apart : (l r : List ℕ) → Answers l → Answers r → (l ≡ r → ⊥) → SameTypes (read_answer l) (read_answer r) → SomeLane (λ s x y. x ≡ y → ⊥) (read_answer l) (read_answer r)
some_apart l r p q d k = by (tried (lane a.first) (lane b.first) (lane_count a.first.kind)) (tried (lane a.second) (lane b.second) (lane_count a.second.kind))
  where
    a : Answered
    a = read_answer l

    b : Answered
    b = read_answer r

    by : ((i : ℕ) → i < lane_count a.first.kind → lane a.first i ≡ lane b.first i) ⊎ LaneOf (λ s x y. x ≡ y → ⊥) a.first b.first
        → ((i : ℕ) → i < lane_count a.second.kind → lane a.second i ≡ lane b.second i) ⊎ LaneOf (λ s x y. x ≡ y → ⊥) a.second b.second
        → SomeLane (λ s x y. x ≡ y → ⊥) a b
    by (inr e) o = inl e
    by (inl e) (inr f) = inr f
    by (inl e) (inl f) =
        let x = one_value a.first b.first (holds l p).first (holds r q).first k.0 e in
        let y = one_value a.second b.second (holds l p).second (holds r q).second k.1 f in
        let s = (values_formed l p.ok p.answered).2 in
        let t = (values_formed r q.ok q.answered).2 in
        absurd (d (cc))
