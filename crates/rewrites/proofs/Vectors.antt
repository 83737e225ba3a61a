-- Q-4 of cross and dot as calls: the laws of their lanes, at each of cross's three places and at dot's one. Assumes nothing.
use mathlib.Core.Path.{◌≡◌, refl, sym, ap, ◌∙◌}
use Prim.Native.Nat.{ℕ, zero, suc, ◌-◌, ◌*◌, ◌<◌}
use native.Mathlib.Nat.{mod-lt}
use native.Mathlib.Omega.{arith}
use mathlib.Core.Bool.{not}
use mathlib.Core.List.{List, [], ◌∷◌}
use lib.Dec.{lit<}
use lib.ListN.{get_or}
use Rattle.half.specs.Format.{f32, top, magnitude, negative}
use Rattle.half.proofs.Signs.{signed_below}
use Rattle.readings.specs.declared.Reading.{Reading}
use Rattle.values.specs.declared.Scalar.TheVariants.{F32}
use Rattle.values.specs.declared.Size.TheVariants.{Three}
use Rattle.values.specs.declared.Kind.{Kind}
use Rattle.values.specs.declared.Kind.TheVariants.{One, Vec}
use Rattle.values.specs.declared.Value.{Value}
use Rattle.values.specs.Value.{scalar_of, lane_count, lane, value, lanewise}
use Rattle.products.specs.Products.{dot_lane}
use Rattle.calls.specs.declared.Builtin.TheVariants.{Cross, Dot}
use Rattle.calls.specs.Table.{Only, Vectors}
use Rattle.builtins.specs.declared.Answer.{Answer}
use Rattle.builtins.specs.Numeric.{crossed, cross_of, dot_of}
use Rattle.builtins.specs.Fold.{answered}
use Rattle.formed.proofs.Values.{each1}
use Rattle.rewrites.specs.Equality.{SameLane, negated}
use Rattle.rewrites.specs.Rewrites.{Of, two, first, CrossTurns, DotCommutes}
use Rattle.rewrites.proofs.Products.{cross_turns, dot_commutes}
use Rattle.rewrites.proofs.Lanes.{lane_value, lane_one, same_value}
use Rattle.rewrites.proofs.Ordered.{answers_alike, first_formed}

abbrev threes : Kind
threes = Vec Three F32

abbrev crosses : Value → Value → List ℕ
crosses a b = crossed a b 1 2 ∷ crossed a b 2 0 ∷ crossed a b 0 1 ∷ []

negated_below : (x : ℕ) → negated x < 2 * top f32
negated_below x = signed_below f32 (not (negative f32 x)) (magnitude f32 x) (mod-lt x {m = top f32} (lit< tt))

module _ (r : Reading) where
  module _ (a b : Value) (i : Of threes a) (j : Of threes b) where
    cross_folds : two r Cross a b ≡ answered (value threes (crosses a b))
    unfolding cross_of
    cross_folds = answers_alike r Cross (Only threes) refl threes refl a b i j ∙ ap (λ (k : Kind). answered (value k (crosses a b))) i.type

    cross_given : first r Cross a b ≡ value threes (crosses a b)
    unfolding answered
    cross_given = ap (λ (x : Answer). x.first) cross_folds

    cross_of_lem : Of threes (first r Cross a b)
    unfolding answered value
    cross_of_lem = record { type = ap (λ (v : Value). v.kind) cross_given; formed = (first_formed r Cross threes threes a b i j (ap (λ (x : Answer). x.refusal) cross_folds)).first }

    cross_lane_lem : (n : ℕ) → lane (first r Cross a b) n ≡ get_or (crosses a b) n 0
    cross_lane_lem n = ap (λ (v : Value). lane v n) cross_given ∙ lane_value threes (crosses a b) n

  pub cross_calls : CrossTurns r
  unfolding answered
  cross_calls a b i j =
      let back = first r Cross b a in
      let of : Of threes back = cross_of_lem b a j i in
      record {
        left = cross_folds a b i j ∙ ap answered (sym (cross_given a b i j));
        right = refl;
        same = same_value threes (first r Cross a b) (lanewise negated back) (cross_of_lem a b i j) (record {
          type = unfold lanewise value in of.type;
          formed = each1 back of.formed (rw of.type) negated (λ x h. rw of.type (negated_below x));
        })
            (λ n h. rw (cross_lane_lem a b i j n, lane_one back of.formed n (rw of.type h) negated, cross_lane_lem b a j i n) (at_place n h));
      }
    where
      at_place : (n : ℕ) → n < 3 → SameLane F32 (get_or (crosses a b) n 0) (negated (get_or (crosses b a) n 0))
      at_place zero h = cross_turns (lane a 1) (lane b 2) (lane a 2) (lane b 1)
      at_place (suc zero) h = cross_turns (lane a 2) (lane b 0) (lane a 0) (lane b 2)
      at_place (suc (suc zero)) h = cross_turns (lane a 0) (lane b 1) (lane a 1) (lane b 0)
      at_place (suc (suc (suc n))) h = absurd (omega arith)

  pub dot_calls : DotCommutes r
  unfolding answered
  dot_calls k t a b i j = record { passes = ap (λ (x : Answer). x.refusal) (folds a b i j); same = folds a b i j ∙ ap answered turned ∙ sym (folds b a j i) }
    where
      folds : (a b : Value) → Of k a → Of k b → two r Dot a b ≡ answered (dot_of a b)
      folds a b i j = answers_alike r Dot Vectors refl k t a b i j

      turned : dot_of a b ≡ dot_of b a
      turned =
          unfold dot_of in
          ap (λ (x : ℕ). value (One (scalar_of a.kind)) (x ∷ [])) (dot_commutes (scalar_of a.kind) (lane a) (lane b) (lane_count a.kind - 1))
          ∙ ap (λ (l : Kind). value (One (scalar_of l)) (dot_lane (scalar_of l) (lane b) (lane a) (lane_count l - 1) ∷ [])) (i.type ∙ sym j.type)
