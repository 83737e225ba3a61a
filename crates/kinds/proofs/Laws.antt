-- What Q-9 says of the kinds, each statement of specs/Laws. A kind says how five tests of two lines came out, and each test what lanes they have. Assumes nothing.
use Prim.Native.Nat.{ℕ}
use mathlib.Core.Bool.{Bool, true, false, cond, ◌||◌, false≢true, or-true}
use mathlib.Core.List.{List}
use mathlib.Core.Logic.{◌⊎◌, inl, inr, ⊎_elim}
use mathlib.Core.Path.{◌≡◌, refl, ap, subst}
use Rattle.values.specs.Value.{is_type}
use Rattle.buffers.specs.Text.{same_bytes}
use Rattle.buffers.proofs.Lookup.{same_true, same_itself, same_false}
use Rattle.listings.specs.declared.Answered.{Answered}
use Rattle.listings.specs.Answers.{read_answer}
use Rattle.kinds.specs.declared.Difference.{Difference}
use Rattle.kinds.specs.declared.Difference.TheVariants.{Alike, Missing, Refusal, OtherType, OtherValue, NanBits, ZeroSign}
use Rattle.kinds.specs.Kinds.{same_types, same_answers, answer_kind, line_kind}
use Rattle.kinds.specs.Laws.{ByZeroSign, ByNanBits, ByMore, SameTypes, SomeLane, Apart, NoneWhereAlike, NeverMissing, RefusalWhere, TypeWhere, PairAndLone, ValueWhere, NanWhere, ZeroWhere}
use Rattle.kinds.proofs.LaneKinds.{Differs, more, more_differs, nan_differs, one_way, more_or_nan}
use Rattle.kinds.proofs.AnswerKinds.{types_told, types_tested, none_differs, some_differs, some_as, some_either, holds, some_apart}

-- ---- tests

on : (t : Bool) → (t ≡ false → ⊥) → t ≡ true
on true h = refl
on false h = absurd (h refl)

off : (t : Bool) → (t ≡ true → ⊥) → t ≡ false
off true h = absurd (h refl)
off false h = refl

either_of : (a b : Bool) → a || b ≡ true → (a ≡ true) ⊎ (b ≡ true)
either_of true b t = inl refl
either_of false b t = inr t

-- what a kind says of the tests: the same bytes, a refusal, the same types, the same lanes but for NaN bits and zero signs, the same lanes but for zero signs
abbrev Tests : Difference → Bool → Bool → Bool → Bool → Bool → Type 0
Tests Alike same refused types nans zeros = same ≡ true
Tests Missing same refused types nans zeros = ⊥
Tests Refusal same refused types nans zeros = refused ≡ true
Tests OtherType same refused types nans zeros = types ≡ false
Tests OtherValue same refused types nans zeros = (types ≡ true) × (nans ≡ false)
Tests NanBits same refused types nans zeros = (types ≡ true) × (nans ≡ true) × (zeros ≡ false)
Tests ZeroSign same refused types nans zeros = (types ≡ true) × (nans ≡ true) × (zeros ≡ true)

by_tests : (same refused types nans zeros : Bool)
    → Tests (cond same Alike (cond refused Refusal (cond types (cond nans (cond zeros ZeroSign NanBits) OtherValue) OtherType))) same refused types nans zeros
by_tests true f t n z = refl
by_tests false true t n z = refl
by_tests false false false n z = refl
by_tests false false true false z = (refl, refl)
by_tests false false true true false = (refl, refl, refl)
by_tests false false true true true = (refl, refl, refl)

module _ (l r : List ℕ) where
  abbrev left : Answered
  left = read_answer l

  abbrev right : Answered
  right = read_answer r

  says : {d : Difference} → line_kind l r ≡ d → Tests d (same_bytes l r) (left.refused || right.refused) (same_types left right) (same_answers true left right) (same_answers false left right)
  unfolding line_kind answer_kind
  says e =
      subst (λ (d : Difference). Tests d (same_bytes l r) (left.refused || right.refused) (same_types left right) (same_answers true left right) (same_answers false left right)) e
      (by_tests (same_bytes l r) (left.refused || right.refused) (same_types left right) (same_answers true left right) (same_answers false left right))

  refusal : (l ≡ r → ⊥) → left.refused || right.refused ≡ true → line_kind l r ≡ Refusal
  unfolding line_kind answer_kind
  refusal d t = rw (same_false l r d, t)

  -- ---- lines with values

  module _ (p : Apart l r) where
    kind_by : {t n z : Bool} → same_types left right ≡ t → same_answers true left right ≡ n → same_answers false left right ≡ z
        → line_kind l r ≡ cond t (cond n (cond z ZeroSign NanBits) OtherValue) OtherType
    unfolding line_kind answer_kind
    kind_by et en ez = rw (same_false l r p.differ, et, en, ez, p.left.answered, p.right.answered)

    some_more : same_answers true left right ≡ false → SomeLane ByMore left right
    some_more t = some_as left right (Differs true) ByMore more (some_differs true left right (holds l p.left) (holds r p.right) t)

    no_more : same_answers true left right ≡ true → SomeLane ByMore left right → ⊥
    no_more t m = none_differs true left right t (some_as left right ByMore (Differs true) more_differs m)

    some_more_or_nan : same_answers false left right ≡ false → SomeLane ByMore left right ⊎ SomeLane ByNanBits left right
    some_more_or_nan t =
        some_either left right ByMore ByNanBits
        (some_as left right (Differs false) (λ s x y. ByMore s x y ⊎ ByNanBits s x y) more_or_nan (some_differs false left right (holds l p.left) (holds r p.right) t))

    no_nan : same_answers false left right ≡ true → SomeLane ByNanBits left right → ⊥
    no_nan t n = none_differs false left right t (some_as left right ByNanBits (Differs false) nan_differs n)

    -- some lane differs, in one of three ways
    some_way : SameTypes left right → SomeLane ByMore left right ⊎ SomeLane ByNanBits left right ⊎ SomeLane ByZeroSign left right
    some_way k =
        let w = some_as left right (λ s x y. x ≡ y → ⊥) (λ s x y. ByMore s x y ⊎ ByNanBits s x y ⊎ ByZeroSign s x y) one_way (some_apart l r p.left p.right p.differ k) in
        elim (some_either left right ByMore (λ s x y. ByNanBits s x y ⊎ ByZeroSign s x y) w) [
          | inl m ↦ inl m
          | inr o ↦ inr (some_either left right ByNanBits ByZeroSign o)
        ]

-- ---- the statements

pub none_where_alike : NoneWhereAlike
unfolding line_kind
none_where_alike l r = (λ e. same_true l r (says l r e), λ e. rw (e, same_itself r))

pub never_missing : NeverMissing
never_missing l r e = says l r e

pub refusal_where : RefusalWhere
refusal_where l r d = (
  λ e. either_of (read_answer l).refused (read_answer r).refused (says l r e),
  ⊎_elim (λ t. refusal l r d (rw t)) (λ t. refusal l r d (rw t (or-true (read_answer l).refused))),
)

pub type_where : TypeWhere
type_where l r p = (
  λ e k. false≢true (cc (says l r e, types_tested (read_answer l) (read_answer r) k)),
  λ d. kind_by l r p (off _ (λ t. d (types_told (read_answer l) (read_answer r) t))) refl refl,
)

pub pair_and_lone : PairAndLone
pair_and_lone l r p d = (type_where l r p).1 (λ k. d (ap is_type k.1))

pub value_where : ValueWhere
value_where l r p = (
  λ e. let s = says l r e in (types_told (read_answer l) (read_answer r) s.0, some_more l r p s.1),
  λ k. kind_by l r p (types_tested (read_answer l) (read_answer r) k.0) (off _ (λ t. no_more l r p t k.1)) refl,
)

pub nan_where : NanWhere
nan_where l r p = (
  λ e.
      let s = says l r e in
      (types_told (read_answer l) (read_answer r) s.0, no_more l r p s.1, ⊎_elim (λ m. absurd (no_more l r p s.1 m)) (λ n. n) (some_more_or_nan l r p s.2)),
  λ k. kind_by l r p (types_tested (read_answer l) (read_answer r) k.0) (on _ (λ t. k.1 (some_more l r p t))) (off _ (λ t. no_nan l r p t k.2)),
)

pub zero_where : ZeroWhere
zero_where l r p = (
  λ e.
      let s = says l r e in
      let k = types_told (read_answer l) (read_answer r) s.0 in (
        k,
        no_more l r p s.1,
        no_nan l r p s.2,
        elim (some_way l r p k) [
          | inl m ↦ absurd (no_more l r p s.1 m)
          | inr (inl n) ↦ absurd (no_nan l r p s.2 n)
          | inr (inr z) ↦ z
        ],
      ),
  λ k. kind_by l r p (types_tested (read_answer l) (read_answer r) k.0) (on _ (λ t. k.1 (some_more l r p t))) (on _ (λ t. ⊎_elim k.1 k.2 (some_more_or_nan l r p t))),
)
