-- Q-4 of frexp and ldexp as calls: the law of the lanes, at each place that is in use. Assumes nothing.
use mathlib.Core.Path.{◌≡◌, refl, ap, ◌∙◌}
use Prim.Native.Nat.{ℕ, ◌<◌}
use mathlib.Core.Bool.{true, false≢true}
use mathlib.Core.List.{[], ◌∷◌, map}
use Rattle.readings.specs.declared.Reading.{Reading}
use Rattle.values.specs.declared.Scalar.{Scalar}
use Rattle.values.specs.declared.Scalar.TheVariants.{Boolean, I32, U32, F32, F16}
use Rattle.values.specs.declared.Kind.{Kind}
use Rattle.values.specs.declared.Kind.TheVariants.{Empty, One, Vec, Mat}
use Rattle.values.specs.declared.Value.{Value}
use Rattle.values.specs.Value.{scalar_of, lane_count, shaped, lanes_of, lane, value, lanewise, lanewise2}
use Rattle.values.specs.Program.{is_lanes}
use Rattle.values.proofs.Formed.{lane_narrow}
use Rattle.values.proofs.Places.{itself}
use Rattle.exponent.specs.Exponent.{fraction_lane, exponent_lane, ldexp_lane}
use Rattle.exponent.proofs.Bounds.{fraction_lane_below, exponent_lane_below, ldexp_lane_below}
use Rattle.exponent.proofs.Rejoined.{rejoined_f32}
use Rattle.calls.specs.declared.Builtin.TheVariants.{Frexp, Ldexp}
use Rattle.calls.specs.Table.{Floats, Singles, I32s, SameShape, among, taken}
use Rattle.builtins.specs.declared.Answer.{Answer}
use Rattle.builtins.specs.Exponent.{fraction_of, exponent_of}
use Rattle.builtins.specs.Fold.{answered, answered_twice}
use Rattle.builtins.proofs.Answers.{answers, answers_two}
use Rattle.formed.proofs.Values.{each1, each2, integers}
use Rattle.rewrites.specs.Equality.{Number}
use Rattle.rewrites.specs.Rewrites.{Of, one, two, Rejoins}
use Rattle.rewrites.proofs.Lanes.{one_value, lane_one, lane_into, lane_two}

-- what a type of f32 lanes is
record Single (k : Kind) : Type 0 where
  scalar : scalar_of k ≡ F32
  lanes : is_lanes k ≡ true
  float : taken Floats k ≡ true
  powers : taken I32s (shaped I32 k) ≡ true

f32_only : (s : Scalar) → among (F32 ∷ []) s ≡ true → s ≡ F32
f32_only Boolean t = absurd (false≢true t)
f32_only I32 t = absurd (false≢true t)
f32_only U32 t = absurd (false≢true t)
f32_only F32 t = refl
f32_only F16 t = absurd (false≢true t)

single : (k : Kind) → taken Singles k ≡ true → Single k
single Empty t = absurd (false≢true t)
single (One s) t = let e = f32_only s t in record { scalar = e; lanes = refl; float = rw e refl; powers = refl }
single (Vec n s) t = let e = f32_only s t in record { scalar = e; lanes = refl; float = rw e refl; powers = refl }
single (Mat c r w) t = absurd (false≢true t)

module _ (r : Reading) (x : Value) (t : taken Singles x.kind ≡ true) (i : Of x.kind x) where
  abbrev k : Kind
  k = x.kind

  o : Single k
  o = single k t

  abbrev fractions : Value
  fractions = lanewise (fraction_lane F32) x

  abbrev powers : Value
  powers = value (shaped I32 k) (map (exponent_lane F32) (lanes_of x))

  splits : one r Frexp x ≡ answered_twice fractions powers
  unfolding fraction_of exponent_of
  splits =
      answers r Frexp Floats x refl i.formed.good o.float
      ∙ ap (λ (s : Scalar). answered_twice (lanewise (fraction_lane s) x) (value (shaped I32 k) (map (exponent_lane s) (lanes_of x)))) o.scalar

  fractions_of : Of k fractions
  fractions_of = record {
    type = unfold lanewise value in refl;
    formed = each1 x i.formed o.lanes (fraction_lane F32) (λ y h. rw o.scalar (fraction_lane_below F32 y (rw o.scalar at h)));
  }

  powers_of : Of (shaped I32 k) powers
  powers_of = record {
    type = unfold value in refl;
    formed = integers (exponent_lane F32) x i.formed o.lanes (λ y. exponent_lane_below F32 y);
  }

  joins : two r Ldexp fractions powers ≡ answered (lanewise2 ldexp_lane fractions powers)
  joins =
      answers_two r Ldexp Singles I32s SameShape fractions powers refl fractions_of.formed.good powers_of.formed.good (rw fractions_of.type t) (rw powers_of.type o.powers)
      (rw (fractions_of.type, powers_of.type) (itself (shaped I32 k)))

  joined_of_lem : Of k (lanewise2 ldexp_lane fractions powers)
  joined_of_lem = record {
    type = unfold lanewise2 value in fractions_of.type;
    formed = each2 fractions fractions_of.formed (rw fractions_of.type o.lanes) powers powers_of.formed ldexp_lane
        (λ y z h g. rw (fractions_of.type, o.scalar) (ldexp_lane_below y z (rw (fractions_of.type, o.scalar) at h)));
  }

  joined_lane : Number x → (n : ℕ) → n < lane_count k → lane (lanewise2 ldexp_lane fractions powers) n ≡ lane x n
  joined_lane e n h =
      lane_two fractions powers fractions_of.formed powers_of.formed n (rw fractions_of.type h) ldexp_lane
      ∙ rw (lane_one x i.formed n h (fraction_lane F32), lane_into x i.formed n h (shaped I32 k) (exponent_lane F32))
      (rejoined_f32 (lane x n) (lane_narrow x i.formed.good n) (rw o.scalar at (e n)))

  rejoined : Number x → two r Ldexp (one r Frexp x).first (one r Frexp x).second ≡ answered x
  unfolding answered_twice
  rejoined e =
      ap (λ (a : Answer). two r Ldexp a.first a.second) splits ∙ joins ∙ ap answered (one_value k (lanewise2 ldexp_lane fractions powers) x joined_of_lem i (joined_lane e))

pub rejoins : (r : Reading) → Rejoins r
rejoins r k t x i = rejoined r x (rw i.type t) (record { type = refl; formed = i.formed })
