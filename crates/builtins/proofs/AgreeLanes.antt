-- What an arm works out of four lanes is the definition's answer, of the builtins that act lane by lane: one law for one, two and three values, by values' laws of
-- the lanes; and select, of which a scalar condition chooses a whole value. Assumes nothing.
use Prim.Native.Nat.{ℕ}
use mathlib.Core.Bool.{Bool, true, false, cond}
use mathlib.Core.List.{List, [], ◌∷◌, map-id}
use mathlib.Core.Path.{◌≡◌, refl, ap, ◌∙◌}
use native.Mathlib.Nat.{mod-eq_of_lt}
use lib.Dec.{eqb}
use lib.ListN.{length, take}
use Rattle.values.specs.declared.Scalar.{Scalar}
use Rattle.values.specs.declared.Scalar.TheVariants.{Boolean}
use Rattle.values.specs.declared.Kind.{Kind}
use Rattle.values.specs.declared.Kind.TheVariants.{One}
use Rattle.values.specs.declared.Value.{Value}
use Rattle.values.specs.Value.{lane_count, lanes_of, place, kind_at, same_kind, lane, value, empty_value, well_formed, lanewise, lanewise2, lanewise3}
use Rattle.values.specs.Program.{low, four, four2, four3, is_lanes}
use Rattle.values.proofs.Bools.{both}
use Rattle.values.proofs.Formed.{lane_narrow, whole}
use Rattle.values.proofs.Lanes.{lanes1, lanes2, lanes3}
use Rattle.values.proofs.Places.{there, same}
use Rattle.calls.specs.Table.{Anything, Booleans, Selectable}
use Rattle.calls.specs.Program.{Passed3}
use Rattle.builtins.specs.Fold.{answered}
use Rattle.moves.specs.Moves.{select_lane}
use Rattle.builtins.specs.Logical.{select_of}
use Rattle.arms.specs.Program.{cut_of, condition_of, given, given_one}
use Rattle.builtins.specs.Program.{value_by, answer_in}
use Rattle.builtins.proofs.Chosen.{by_scalar, by_vector}

-- ---- an outcome of one value, as an answer

module _ (ok : Bool) where
  by_place : (p : ℕ) (x : List ℕ) → answer_in (given ok p x) ≡ answered (value_by p x)
  unfolding answered empty_value value kind_at
  by_place p x = refl

  -- of a type by its place, with lanes that it says
  pub by_type : (k : Kind) (x : Kind → List ℕ) → answer_in (given ok (place k) (x (kind_at (place k)))) ≡ answered (value k (take (lane_count k) (x k)))
  by_type k x = by_place (place k) (x (kind_at (place k))) ∙ ap (λ (l : Kind). answered (value l (take (lane_count l) (x l)))) (there k)

  pub by_scalar_type : (s : Scalar) (x : ℕ) → answer_in (given_one ok (place (One s)) x) ≡ answered (value (One s) (x ∷ []))
  by_scalar_type s x = by_type (One s) (λ k. x ∷ 0 ∷ 0 ∷ 0 ∷ [])

-- four lanes hold a scalar or a vector whole
pub held : (v : Value) → length v.lanes ≡ 16 → well_formed v ≡ true → is_lanes v.kind ≡ true → value v.kind (take (lane_count v.kind) (cut_of v)) ≡ v
unfolding lanewise
held v l w i = lanes1 (λ x. x) v l w i ∙ ap (value v.kind) (map-id (lanes_of v)) ∙ whole v w l

module _ (ok : Bool) (a : Value) (la : length a.lanes ≡ 16) (is : is_lanes a.kind ≡ true) (fa : well_formed a ≡ true) where
  -- ---- one, two and three values: a lane function of the first value's type

  pub agree1 : (f : Kind → ℕ → ℕ) → answer_in (given ok (place a.kind) (four (f (kind_at (place a.kind))) (cut_of a))) ≡ answered (lanewise (f a.kind) a)
  agree1 f = by_type ok a.kind (λ k. four (f k) (cut_of a)) ∙ ap answered (lanes1 (f a.kind) a la fa is)

  module _ (b : Value) (lb : length b.lanes ≡ 16) (fb : well_formed b ≡ true) where
    pub agree2 : (f : Kind → ℕ → ℕ → ℕ) → answer_in (given ok (place a.kind) (four2 (f (kind_at (place a.kind))) (cut_of a) (cut_of b))) ≡ answered (lanewise2 (f a.kind) a b)
    agree2 f = by_type ok a.kind (λ k. four2 (f k) (cut_of a) (cut_of b)) ∙ ap answered (lanes2 (f a.kind) a b la lb fa fb is)

    pub agree3 : (c : Value) → length c.lanes ≡ 16 → well_formed c ≡ true → (f : Kind → ℕ → ℕ → ℕ → ℕ)
        → answer_in (given ok (place a.kind) (four3 (f (kind_at (place a.kind))) (cut_of a) (cut_of b) (cut_of c))) ≡ answered (lanewise3 (f a.kind) a b c)
    agree3 c lc fc f = by_type ok a.kind (λ k. four3 (f k) (cut_of a) (cut_of b) (cut_of c)) ∙ ap answered (lanes3 (f a.kind) a b c la lb lc fa fb fc is)

-- ---- select

module _ (ok : Bool) {a b c : Value} (la : length a.lanes ≡ 16) (lb : length b.lanes ≡ 16) (lc : length c.lanes ≡ 16) (is : is_lanes a.kind ≡ true)
    (q : Passed3 Anything Anything Booleans Selectable a b c) where
  one_type : a.kind ≡ b.kind
  one_type = same (both (same_kind a.kind b.kind) _ q.joint).0

  spread : (r : ℕ) (d : Bool) → eqb r 0 ≡ d → value a.kind (take (lane_count a.kind) (four3 select_lane (cut_of a) (cut_of b) (r ∷ r ∷ r ∷ r ∷ []))) ≡ cond d a b
  spread r true h = rw h (held a la q.first.formed is)
  spread r false h = rw (h, one_type) (held b lb q.second.formed (rw one_type at is))

  chosen : (d : Bool) → same_kind c.kind (One Boolean) ≡ d
      → value a.kind (take (lane_count a.kind) (four3 select_lane (cut_of a) (cut_of b) (cond d (low (lane c 0) ∷ low (lane c 0) ∷ low (lane c 0) ∷ low (lane c 0) ∷ []) (cut_of c)))) ≡ select_of a b c
  chosen true h =
      spread (low (lane c 0)) (eqb (lane c 0) 0) (ap (λ (x : ℕ). eqb x 0) (mod-eq_of_lt (lane_narrow c q.third.formed 0))) ∙ by_scalar q h la lb
  chosen false h = lanes3 select_lane a b c la lb lc q.first.formed q.second.formed q.third.formed is ∙ by_vector q h

  pub agree_select : answer_in (given ok (place a.kind) (four3 select_lane (cut_of a) (cut_of b) (condition_of c))) ≡ answered (select_of a b c)
  agree_select = by_type ok a.kind (λ k. four3 select_lane (cut_of a) (cut_of b) (condition_of c)) ∙ ap answered (chosen (same_kind c.kind (One Boolean)) refl)
