-- Q-4 of min and max as calls. A call of two values of one type that it takes is answered by the value whose lanes are its lane function's, and that is well formed: so what holds of the lanes
-- of 32 bits holds of the calls. The types taken are those whose lanes have a rank. Assumes nothing.
use mathlib.Core.Path.{◌≡◌, refl, sym, ap, ◌∙◌, subst}
use Prim.Native.Nat.{ℕ, ◌^◌, ◌<◌}
use mathlib.Core.Bool.{true, false, false≢true}
use mathlib.Core.List.{[], ◌∷◌}
use Rattle.readings.specs.declared.Reading.{Reading}
use Rattle.values.specs.declared.Scalar.{Scalar}
use Rattle.values.specs.declared.Scalar.TheVariants.{Boolean, I32, U32, F32, F16}
use Rattle.values.specs.declared.Kind.{Kind}
use Rattle.values.specs.declared.Kind.TheVariants.{Empty, One, Vec, Mat}
use Rattle.values.specs.declared.Value.{Value}
use Rattle.values.specs.Value.{lane_bits, scalar_of, lane_count, lane, empty_value, value, lanewise2, lanewise3}
use Rattle.values.proofs.Bools.{and}
use Rattle.values.proofs.Formed.{lane_narrow}
use Rattle.values.proofs.Places.{itself}
use Rattle.limits.specs.Limits.{min_lane, max_lane, clamp_lane}
use Rattle.calls.specs.declared.Builtin.{Builtin}
use Rattle.calls.specs.declared.Builtin.TheVariants.{Min, Max, Clamp}
use Rattle.calls.specs.Table.{Taken, Ordered, OneType, Binary, among, taken, takes}
use Rattle.builtins.specs.declared.Answer.{Answer}
use Rattle.builtins.specs.Fold.{answered, answer_by, fold_in}
use Rattle.builtins.specs.Calls.{call_two, call_three}
use Rattle.builtins.proofs.Answers.{answers_two, answers_three}
use Rattle.formed.specs.Answers.{AnswerFormed}
use Rattle.formed.proofs.Answered.{answers_formed}
use Rattle.formed.proofs.LaneBounds.{min_below, max_below}
use Rattle.rewrites.specs.Equality.{SameValue, SameAnswer, SameBits, nan_lane, Number}
use Rattle.rewrites.specs.Rewrites.{Of, two, first, Commutative, Associative, Idempotent, Itself, Absorbs, Repeats, Respects, ClampsSo}
use Rattle.rewrites.proofs.Ranked as by_rank
use Rattle.rewrites.proofs.Ranked.{Ranked, Picks, mins, maxes, max_absorbs, min_absorbs}
use Rattle.rewrites.proofs.Orders.{i32_ranked, u32_ranked, f32_ranked}
use Rattle.rewrites.proofs.Lanes.{one_value, same_value, lane_two, lane_three}

-- ---- two values of one type
pub answers_alike : (r : Reading) (f : Builtin) (p : Taken) → takes f ≡ Binary p p OneType → (k : Kind) → taken p k ≡ true → (a b : Value) → Of k a → Of k b
    → two r f a b ≡ answer_by r f Empty a b empty_value
answers_alike r f p row k t a b i j =
    answers_two r f p p OneType a b row i.formed.good j.formed.good (rw i.type t) (rw j.type t) (rw (i.type, j.type) (and (itself k) (itself k)))

-- what an answered call of two values gives
pub first_formed : (r : Reading) (f : Builtin) (k l : Kind) (a b : Value) → Of k a → Of l b → (two r f a b).refusal ≡ 0 → AnswerFormed (two r f a b)
unfolding empty_value
first_formed r f k l a b i j e = answers_formed r (call_two f a b) (record { a = i.formed.lanes; b = j.formed.lanes; c = refl }) e

-- ---- the types taken
scalar_ranked : (s : Scalar) → among (I32 ∷ U32 ∷ F32 ∷ []) s ≡ true → Ranked s × (lane_bits s ≡ 32)
scalar_ranked Boolean t = absurd (false≢true t)
scalar_ranked I32 t = (i32_ranked, refl)
scalar_ranked U32 t = (u32_ranked, refl)
scalar_ranked F32 t = (f32_ranked, refl)
scalar_ranked F16 t = absurd (false≢true t)

ranked : (k : Kind) → taken Ordered k ≡ true → Ranked (scalar_of k) × (lane_bits (scalar_of k) ≡ 32)
ranked Empty t = absurd (false≢true t)
ranked (One s) t = scalar_ranked s t
ranked (Vec n s) t = scalar_ranked s t
ranked (Mat c r w) t = absurd (false≢true t)

module _ (r : Reading) (k : Kind) (t : taken Ordered k ≡ true) where
  abbrev s : Scalar
  s = scalar_of k

  o : Ranked s
  o = (ranked k t).0

  -- a builtin that picks, lane by lane
  record Lanewise (f : Builtin) (g : ℕ → ℕ → ℕ) : Type 0 where
    folds : (a b : Value) → Of k a → Of k b → two r f a b ≡ answered (lanewise2 g a b)
    narrow : (x y : ℕ) → x < 2 ^ 32 → y < 2 ^ 32 → g x y < 2 ^ 32

  least : Lanewise Min (min_lane s)
  least = record {
    folds = λ a b i j. answers_alike r Min Ordered refl k t a b i j ∙ ap (λ (l : Kind). answered (lanewise2 (min_lane (scalar_of l)) a b)) i.type;
    narrow = λ x y h g. rw (ranked k t).1 at (min_below s x y (rw (ranked k t).1 h) (rw (ranked k t).1 g));
  }

  greatest : Lanewise Max (max_lane s)
  greatest = record {
    folds = λ a b i j. answers_alike r Max Ordered refl k t a b i j ∙ ap (λ (l : Kind). answered (lanewise2 (max_lane (scalar_of l)) a b)) i.type;
    narrow = λ x y h g. rw (ranked k t).1 at (max_below s x y (rw (ranked k t).1 h) (rw (ranked k t).1 g));
  }

  fits : (v : Value) → Of k v → (n : ℕ) → lane v n < 2 ^ 32
  fits v i n = lane_narrow v i.formed.good n

  module _ {f : Builtin} {g : ℕ → ℕ → ℕ} (l : Lanewise f g) where
    module _ (a b : Value) (i : Of k a) (j : Of k b) where
      given : first r f a b ≡ lanewise2 g a b
      unfolding answered
      given = ap (λ (x : Answer). x.first) (l.folds a b i j)

      gives : two r f a b ≡ answered (first r f a b)
      gives = l.folds a b i j ∙ ap answered (sym given)

      passes : (two r f a b).refusal ≡ 0
      unfolding answered
      passes = ap (λ (x : Answer). x.refusal) gives

      of : Of k (first r f a b)
      unfolding lanewise2 value
      of = record { type = ap (λ (v : Value). v.kind) given ∙ i.type; formed = (first_formed r f k k a b i j passes).first }

      at_lane : (n : ℕ) → n < lane_count k → lane (first r f a b) n ≡ g (lane a n) (lane b n)
      at_lane n h = ap (λ (v : Value). lane v n) given ∙ lane_two a b i.formed j.formed n (rw i.type h) g

    module _ (p : Picks s o g) where
      commutes : (a b : Value) → Of k a → Of k b → SameAnswer (two r f a b) (two r f b a)
      commutes a b i j = record {
        left = gives a b i j;
        right = gives b a j i;
        same = same_value k (first r f a b) (first r f b a) (of a b i j) (of b a j i)
            (λ n h. rw (at_lane a b i j n h, at_lane b a j i n h) (by_rank.commutes s o g p l.narrow (lane a n) (lane b n) (fits a i n) (fits b j n)));
      }

      respects : (a b c d : Value) → Of k a → Of k b → Of k c → Of k d → SameValue a c → SameValue b d → SameAnswer (two r f a b) (two r f c d)
      respects a b c d i j m q e h = record {
        left = gives a b i j;
        right = gives c d m q;
        same = same_value k (first r f a b) (first r f c d) (of a b i j) (of c d m q)
            (λ n z. rw (at_lane a b i j n z, at_lane c d m q n z)
            (by_rank.respects s o g p l.narrow (lane a n) (lane b n) (lane c n) (lane d n) (fits a i n) (fits b j n) (fits c m n) (fits d q n)
            (rw i.type at (e.lanes n)) (rw j.type at (h.lanes n))));
      }

      idempotent : (a : Value) → Of k a → SameAnswer (two r f a a) (answered a)
      unfolding answered
      idempotent a i = record {
        left = gives a a i i;
        right = refl;
        same = same_value k (first r f a a) a (of a a i i) i (λ n h. rw (at_lane a a i i n h) (by_rank.idempotent s o g p l.narrow (lane a n) (fits a i n)));
      }

      associates : (a b c : Value) → Of k a → Of k b → Of k c → SameBits (two r f (first r f a b) c) (two r f a (first r f b c))
      associates a b c i j m =
          let ab = first r f a b in
          let bc = first r f b c in
          let iab : Of k ab = of a b i j in
          let ibc : Of k bc = of b c j m in
          record {
            passes = passes ab c iab m;
            same =
                gives ab c iab m
                ∙ ap answered (one_value k (first r f ab c) (first r f a bc) (of ab c iab m) (of a bc i ibc)
                (λ n h. rw (at_lane ab c iab m n h, at_lane a bc i ibc n h, at_lane a b i j n h, at_lane b c j m n h)
                (by_rank.associates s o g p l.narrow (lane a n) (lane b n) (lane c n) (fits a i n) (fits b j n) (fits c m n))))
                ∙ sym (gives a bc i ibc);
          }

      repeats : (a b : Value) → Of k a → Of k b → SameBits (two r f a (first r f a b)) (two r f a b)
      repeats a b i j =
          let ab = first r f a b in
          let iab : Of k ab = of a b i j in
          record {
            passes = passes a ab i iab;
            same =
                gives a ab i iab
                ∙ ap answered (one_value k (first r f a ab) ab (of a ab i iab) iab
                (λ n h. rw (at_lane a ab i iab n h, at_lane a b i j n h) (by_rank.repeats s o g p l.narrow (lane a n) (lane b n) (fits a i n) (fits b j n))))
                ∙ sym (gives a b i j);
          }

  -- one in the other
  module _ {f f' : Builtin} {g g' : ℕ → ℕ → ℕ} (l : Lanewise f g) (l' : Lanewise f' g')
      (law : (x y : ℕ) → x < 2 ^ 32 → y < 2 ^ 32 → nan_lane s x ≡ false → g' x (g x y) ≡ x) where
    absorbs : (a b : Value) → Of k a → Of k b → Number a → two r f' a (first r f a b) ≡ answered a
    absorbs a b i j e =
        let ab = first r f a b in
        let iab : Of k ab = of l a b i j in
        gives l' a ab i iab
        ∙ ap answered (one_value k (first r f' a ab) a (of l' a ab i iab) i
        (λ n h. at_lane l' a ab i iab n h ∙ rw (at_lane l a b i j n h) (law (lane a n) (lane b n) (fits a i n) (fits b j n) (rw i.type at (e n)))))

-- ---- the laws
module _ (r : Reading) where
  pub min_commutes : Commutative r Min
  min_commutes k t = commutes r k t (least r k t) (mins (scalar_of k) (o r k t))

  pub max_commutes : Commutative r Max
  max_commutes k t = commutes r k t (greatest r k t) (maxes (scalar_of k) (o r k t))

  pub min_associates : Associative r Min
  min_associates k t = associates r k t (least r k t) (mins (scalar_of k) (o r k t))

  pub max_associates : Associative r Max
  max_associates k t = associates r k t (greatest r k t) (maxes (scalar_of k) (o r k t))

  pub min_idempotent : Idempotent r Min
  min_idempotent k t = idempotent r k t (least r k t) (mins (scalar_of k) (o r k t))

  pub max_idempotent : Idempotent r Max
  max_idempotent k t = idempotent r k t (greatest r k t) (maxes (scalar_of k) (o r k t))

  pub min_repeats : Repeats r Min
  min_repeats k t = repeats r k t (least r k t) (mins (scalar_of k) (o r k t))

  pub max_repeats : Repeats r Max
  max_repeats k t = repeats r k t (greatest r k t) (maxes (scalar_of k) (o r k t))

  pub min_respects : Respects r Min
  min_respects k t = respects r k t (least r k t) (mins (scalar_of k) (o r k t))

  pub max_respects : Respects r Max
  max_respects k t = respects r k t (greatest r k t) (maxes (scalar_of k) (o r k t))

  pub max_of_min : Absorbs r Max Min
  max_of_min k t = absorbs r k t (least r k t) (greatest r k t) (max_absorbs (scalar_of k) (o r k t) (least r k t).narrow)

  pub min_of_max : Absorbs r Min Max
  min_of_max k t = absorbs r k t (greatest r k t) (least r k t) (min_absorbs (scalar_of k) (o r k t) (greatest r k t).narrow)

  -- a is max(a, min(a, a)), and so min(a, a) is min(a, max(a, min(a, a))), which is a
  pub min_itself : Itself r Min
  unfolding answered
  min_itself k t a i e =
      subst (λ (v : Value). two r Min a v ≡ answered a) (ap (λ (x : Answer). x.first) (max_of_min k t a a i i e))
      (min_of_max k t a (first r Min a a) i (of r k t (least r k t) a a i i) e)

  pub max_itself : Itself r Max
  unfolding answered
  max_itself k t a i e =
      subst (λ (v : Value). two r Max a v ≡ answered a) (ap (λ (x : Answer). x.first) (min_of_max k t a a i i e))
      (max_of_min k t a (first r Max a a) i (of r k t (greatest r k t) a a i i) e)

  -- clamp's lane is min's of max's
  pub clamps_so : ClampsSo r
  unfolding answered empty_value
  clamps_so k t e l h i j m =
      let low = first r Max e l in
      let ilow : Of k low = of r k t (greatest r k t) e l i j in
      let clamped : fold_in r (call_three Clamp e l h) ≡ answered (lanewise3 (clamp_lane (scalar_of k)) e l h) =
      answers_three r Clamp Ordered Ordered Ordered OneType e l h refl i.formed.good j.formed.good m.formed.good (rw i.type t) (rw j.type t) (rw m.type t)
      (rw (i.type, j.type, m.type) (and (itself k) (itself k)))
      ∙ ap (λ (l' : Kind). answered (lanewise3 (clamp_lane (scalar_of l')) e l h)) i.type in
      let refusal : (fold_in r (call_three Clamp e l h)).refusal ≡ 0 = ap (λ (x : Answer). x.refusal) clamped in
      let value-is = ap (λ (x : Answer). x.first) clamped in
      let is : Of k (lanewise3 (clamp_lane (scalar_of k)) e l h) = record {
        type = unfold lanewise3 value in i.type;
        formed = rw value-is at (answers_formed r (call_three Clamp e l h) (record { a = i.formed.lanes; b = j.formed.lanes; c = m.formed.lanes }) refusal).first;
      } in
      record {
        passes = refusal;
        same =
            clamped
            ∙ ap answered (one_value k (lanewise3 (clamp_lane (scalar_of k)) e l h) (first r Min low h) is (of r k t (least r k t) low h ilow m)
            (λ n z. lane_three e l h i.formed j.formed m.formed n (rw i.type z) (clamp_lane (scalar_of k))
            ∙ sym (at_lane r k t (least r k t) low h ilow m n z ∙ ap (λ (x : ℕ). min_lane (scalar_of k) x (lane h n)) (at_lane r k t (greatest r k t) e l i j n z))))
            ∙ sym (gives r k t (least r k t) low h ilow m);
      }
