-- What an answered call gives is well formed. A call that is not refused has passed every test of its row, so its values are well formed and of the types that the row takes; then by builtin,
-- by what its value is made of and the bound of its lane function. Assumes nothing.
use Prim.Native.Nat.{ℕ, ◌^◌, ◌<◌}
use mathlib.Core.Bool.{Bool, true, false, not, cond}
use mathlib.Core.List.{[], ◌∷◌}
use mathlib.Core.Logic.{inl, inr}
use mathlib.Core.Path.{◌≡◌, refl, sym, subst}
use native.Mathlib.Omega.{arith}
use borrow.Author.Tests.{lt-ltb}
use lib.Dec.{lit<, ltb, eqb}
use lib.ListN.{length}
use Rattle.readings.specs.declared.Reading.{Reading}
use Rattle.readings.specs.declared.Reading.TheVariants as In
use Rattle.values.specs.declared.Scalar.TheVariants.{Boolean, I32, U32, F32}
use Rattle.values.specs.declared.Size.TheVariants.{Two, Three, Four}
use Rattle.values.specs.declared.Kind.{Kind}
use Rattle.values.specs.declared.Kind.TheVariants.{One, Vec}
use Rattle.values.specs.declared.Value.{Value}
use Rattle.values.specs.Value.{scalar_of, same_kind, lanes_of, lane, value, every, lanewise, lanewise2, lanewise3, Formed, flag}
use Rattle.values.specs.Program.{is_lanes}
use Rattle.values.proofs.Bools.{both, and}
use Rattle.values.proofs.Places.{same}
use Rattle.calls.specs.declared.Builtin.{Builtin}
use Rattle.calls.specs.declared.Builtin.TheVariants.{All, Any, Select, Abs, Sign, CountLeadingZeros, CountOneBits, CountTrailingZeros, Min, Max, Clamp, Saturate, Step, Cross, Dot, Transpose, Frexp, Ldexp, Bitcast, Pack4x8snorm, Pack4x8unorm, Pack4xI8, Pack4xI8Clamp, Pack4xU8, Pack4xU8Clamp, Pack2x16snorm, Pack2x16unorm, Pack2x16float, Unpack4x8snorm, Unpack4x8unorm, Unpack4xI8, Unpack4xU8, Unpack2x16snorm, Unpack2x16unorm, Unpack2x16float, Floor, Ceil, Trunc, Round, Fract, Unknown}
use Rattle.calls.specs.Table.{Unary, Binary, Ternary, Taken, Anything, Booleans, Numbers, Integers, Ordered, Floats, Singles, I32s, Matrices, Only, OneType, Selectable, SameShape, taken, takes}
use Rattle.calls.specs.Refuse.{judged}
use Rattle.calls.specs.Program.{Passed, Passed3}
use Rattle.calls.proofs.Passed.{unary, binary, ternary, cast}
use Rattle.half.specs.Convert.{half_of}
use Rattle.losses.specs.Losses.{loss_of}
use Rattle.losses.proofs.Most.{number_most, largest_most}
use Rattle.numeric.specs.Numeric.{leading_lane, ones_lane, trailing_lane}
use Rattle.limits.specs.Limits.{saturate_lane}
use Rattle.products.specs.Products.{cross_lane}
use Rattle.exponent.specs.Exponent.{fraction_lane, exponent_lane, ldexp_lane}
use Rattle.exponent.proofs.Bounds.{fraction_lane_below, exponent_lane_below, ldexp_lane_below}
use Rattle.rounding.proofs.Laws.{whole_lane_fits, fract_lane_fits}
use Rattle.builtins.specs.Exponent.{fraction_of, exponent_of}
use Rattle.formats.specs.Formats.{x8snorm, x8unorm, x_i8, x_u8, x_i8_clamp, x_u8_clamp, x16snorm, x16unorm, x16float}
use Rattle.moves.specs.Moves.{select_lane, transpose_of}
use Rattle.builtins.specs.Logical.{all_of, any_of, select_of}
use Rattle.builtins.specs.Numeric.{cross_of, dot_of}
use Rattle.builtins.specs.Pack.{packed, packed_clamped, loss_in}
use Rattle.builtins.specs.Fold.{answered, answered_twice, answered_losing, answer_by}
use Rattle.builtins.proofs.Folded.{folds, unrefused}
use Rattle.builtins.proofs.Chosen.{by_scalar, by_vector, lanes_to_choose}
use Rattle.formats.proofs.LaneLaws.{laws}
use Rattle.formed.specs.Answers.{AnswerFormed, AnswersFormed}
use Rattle.formed.proofs.LaneBounds.{bound, one_of, abs_below, sign_below, leading_below, ones_below, trailing_below, max_below, min_below, clamp_below, saturate_below, step_below, cross_below, dot_below}
use Rattle.formed.proofs.Values.{made, one_lane, Within, within, is_wide, wide, each1, each2, each3, integers, transposed_formed, packed_formed, unpacked_formed, filled_formed, bitcast_formed}

held : {p : Taken} {v : Value} → length v.lanes ≡ 16 → Passed p v → Formed v
held l p = record { good = p.formed; lanes = l }

one : {v : Value} → Formed v → AnswerFormed (answered v)
unfolding answered
one f = record { first = f; second = inl refl; loss = omega arith }

truth : (b : Bool) → Formed (value (One Boolean) (flag b ∷ []))
truth b = one_lane Boolean (flag b) (one_of b (lit< tt) (lit< tt))

all_formed : (v : Value) → AnswerFormed (answered (all_of v))
unfolding all_of
all_formed v = one (truth (every (λ x. eqb x 1) (lanes_of v)))

any_formed : (v : Value) → AnswerFormed (answered (any_of v))
unfolding any_of
any_formed v = one (truth (not (every (λ x. eqb x 0) (lanes_of v))))

module _ (R : Reading) (n : ℕ) (t : Kind) (a b c : Value) (la : length a.lanes ≡ 16) (lb : length b.lanes ≡ 16) (lc : length c.lanes ≡ 16) where
  abbrev most : ℕ
  most = bound (scalar_of a.kind)

  -- ---- lane by lane, of values of one type

  lanes1 : (p : Taken) → Within (taken p) is_lanes → judged (Unary p) n t a b c ≡ 0 → (f : ℕ → ℕ) → ((x : ℕ) → x < most → f x < most) → AnswerFormed (answered (lanewise f a))
  lanes1 p w e f h = let q = unary n t a b c p e in one (each1 a (held la q) (within (taken p) is_lanes w a.kind q.alone) f h)

  -- of 32 bits
  words1 : (p : Taken) → Within (taken p) is_lanes → Within (taken p) is_wide → judged (Unary p) n t a b c ≡ 0 → (f : ℕ → ℕ) → ((x : ℕ) → x < 2 ^ 32 → f x < 2 ^ 32) → AnswerFormed (answered (lanewise f a))
  words1 p w i e f h = lanes1 p w e f (rw (wide (taken p) i a.kind (unary n t a b c p e).alone) h)

  lanes2 : (p : Taken) → Within (taken p) is_lanes → judged (Binary p p OneType) n t a b c ≡ 0 → (f : ℕ → ℕ → ℕ) → ((x y : ℕ) → x < most → y < most → f x y < most)
      → AnswerFormed (answered (lanewise2 f a b))
  lanes2 p w e f h =
      let q = binary n t a b c p p OneType e in
      let k : a.kind ≡ b.kind = same (both (same_kind a.kind b.kind) _ q.joint).0 in
      one (each2 a (held la q.first) (within (taken p) is_lanes w a.kind q.first.alone) b (held lb q.second) f (rw (← k) h))

  lanes3 : (p : Taken) → Within (taken p) is_lanes → judged (Ternary p p p OneType) n t a b c ≡ 0 → (f : ℕ → ℕ → ℕ → ℕ) → ((x y z : ℕ) → x < most → y < most → z < most → f x y z < most)
      → AnswerFormed (answered (lanewise3 f a b c))
  lanes3 p w e f h =
      let q = ternary n t a b c p p p OneType e in
      let s = both (same_kind a.kind b.kind) (same_kind a.kind c.kind) q.joint in
      let k : a.kind ≡ b.kind = same s.0 in
      let l : a.kind ≡ c.kind = same s.1 in
      one (each3 a (held la q.first) (within (taken p) is_lanes w a.kind q.first.alone) b (held lb q.second) c (held lc q.third) f (rw (← k, ← l) h))

  -- ---- of others

  select_formed : judged (takes Select) n t a b c ≡ 0 → AnswerFormed (answered (select_of a b c))
  select_formed e = one (by (same_kind c.kind (One Boolean)) refl)
    where
      q : Passed3 Anything Anything Booleans Selectable a b c
      q = ternary n t a b c Anything Anything Booleans Selectable e

      k : a.kind ≡ b.kind
      k = same (both (same_kind a.kind b.kind) _ q.joint).0

      whole : (s : Bool) → Formed (cond s a b)
      whole true = held la q.first
      whole false = held lb q.second

      by : (s : Bool) → same_kind c.kind (One Boolean) ≡ s → Formed (select_of a b c)
      by true s = subst Formed (by_scalar q s la lb) (whole (eqb (lane c 0) 0))
      by false s =
          subst Formed (by_vector q s)
          (each3 a (held la q.first) (lanes_to_choose q s) b (held lb q.second) c (held lc q.third) select_lane (λ x y z h g i. one_of (eqb z 0) h (rw k g)))

  ldexp_formed : judged (takes Ldexp) n t a b c ≡ 0 → AnswerFormed (answered (lanewise2 ldexp_lane a b))
  ldexp_formed e =
      let q = binary n t a b c Singles I32s SameShape e in
      one (each2 a (held la q.first) (within (taken Singles) is_lanes refl a.kind q.first.alone) b (held lb q.second) ldexp_lane (rw (wide (taken Singles) refl a.kind q.first.alone) (λ x y h g. ldexp_lane_below x y h)))

  frexp_formed : judged (takes Frexp) n t a b c ≡ 0 → AnswerFormed (answered_twice (fraction_of a) (exponent_of a))
  unfolding answered_twice fraction_of exponent_of lanewise value
  frexp_formed e =
      let q = unary n t a b c Floats e in
      let is = within (taken Floats) is_lanes refl a.kind q.alone in
      record {
        first = each1 a (held la q) is (fraction_lane (scalar_of a.kind)) (fraction_lane_below (scalar_of a.kind));
        second = inr (record { float = q.alone; shape = refl; second = integers (exponent_lane (scalar_of a.kind)) a (held la q) is (exponent_lane_below (scalar_of a.kind)) });
        loss = omega arith;
      }

  halves_formed : judged (takes Pack2x16float) n t a b c ≡ 0 → AnswerFormed (answered_losing (loss_in a) (packed 16 half_of a))
  unfolding answered_losing loss_in
  halves_formed e =
      record {
        first = packed_formed (laws R x16float) Two F32 a refl (unary n t a b c _ e);
        second = inl refl;
        loss = largest_most 2 _ (λ x. number_most (loss_of x)) (lanes_of a);
      }

  clamped_formed : (r : Reading) → judged (takes Pack4xI8Clamp) n t a b c ≡ 0 → Formed (packed_clamped r a)
  clamped_formed In.Crate e = filled_formed a
  clamped_formed In.Text e = packed_formed (laws In.Text x_i8_clamp) Four I32 a refl (unary n t a b c _ e)

  cross_formed : judged (takes Cross) n t a b c ≡ 0 → AnswerFormed (answered (cross_of a b))
  unfolding cross_of
  cross_formed e =
      let q = binary n t a b c (Only (Vec Three F32)) (Only (Vec Three F32)) OneType e in
      let under : (x y z w : ℕ) → ltb (cross_lane x y z w) (2 ^ 32) ≡ true = λ x y z w. lt-ltb _ _ (cross_below x y z w) in
      rw (same {k = a.kind} {l = Vec Three F32} q.first.alone) (one (made (Vec Three F32) _ refl refl (and (under _ _ _ _) (and (under _ _ _ _) (and (under _ _ _ _) refl)))))

  dot_formed : AnswerFormed (answered (dot_of a b))
  unfolding dot_of
  dot_formed = one (one_lane (scalar_of a.kind) _ (dot_below (scalar_of a.kind) (lane a) (lane b) _))

  transpose_formed : judged (takes Transpose) n t a b c ≡ 0 → AnswerFormed (answered (transpose_of a))
  unfolding transpose_of
  transpose_formed e = one (transposed_formed a.kind a refl (held la (unary n t a b c Matrices e)))

  unknown : judged (takes Unknown) n t a b c ≡ 0 → ⊥
  unfolding judged
  unknown e = omega arith

  -- ---- by builtin

  good : (which : Builtin) → judged (takes which) n t a b c ≡ 0 → AnswerFormed (answer_by R which t a b c)
  good All e = all_formed a
  good Any e = any_formed a
  good Select e = select_formed e
  good Abs e = lanes1 Numbers refl e _ (abs_below (scalar_of a.kind))
  good Sign e = lanes1 Numbers refl e _ (sign_below (scalar_of a.kind))
  good CountLeadingZeros e = words1 Integers refl refl e leading_lane leading_below
  good CountOneBits e = words1 Integers refl refl e ones_lane ones_below
  good CountTrailingZeros e = words1 Integers refl refl e trailing_lane (λ x h. trailing_below x)
  good Min e = lanes2 Ordered refl e _ (min_below (scalar_of a.kind))
  good Max e = lanes2 Ordered refl e _ (max_below (scalar_of a.kind))
  good Clamp e = lanes3 Ordered refl e _ (clamp_below (scalar_of a.kind))
  good Saturate e = words1 Singles refl refl e saturate_lane saturate_below
  good Step e = lanes2 Floats refl e _ (λ x y h g. step_below (scalar_of a.kind) x y g)
  good Cross e = cross_formed e
  good Dot e = dot_formed
  good Transpose e = transpose_formed e
  good Frexp e = frexp_formed e
  good Ldexp e = ldexp_formed e
  good Bitcast e = let q = cast n t a b c Numbers e in one (bitcast_formed t a q.type q.target)
  good Pack4x8snorm e = one (packed_formed (laws R x8snorm) Four F32 a refl (unary n t a b c _ e))
  good Pack4x8unorm e = one (packed_formed (laws R x8unorm) Four F32 a refl (unary n t a b c _ e))
  good Pack4xI8 e = one (packed_formed (laws R x_i8) Four I32 a refl (unary n t a b c _ e))
  good Pack4xI8Clamp e = one (clamped_formed R e)
  good Pack4xU8 e = one (packed_formed (laws R x_u8) Four U32 a refl (unary n t a b c _ e))
  good Pack4xU8Clamp e = one (packed_formed (laws R x_u8_clamp) Four U32 a refl (unary n t a b c _ e))
  good Pack2x16snorm e = one (packed_formed (laws R x16snorm) Two F32 a refl (unary n t a b c _ e))
  good Pack2x16unorm e = one (packed_formed (laws R x16unorm) Two F32 a refl (unary n t a b c _ e))
  good Pack2x16float e = halves_formed e
  good Unpack4x8snorm e = one (unpacked_formed (laws R x8snorm) Four F32 a refl refl)
  good Unpack4x8unorm e = one (unpacked_formed (laws R x8unorm) Four F32 a refl refl)
  good Unpack4xI8 e = one (unpacked_formed (laws R x_i8) Four I32 a refl refl)
  good Unpack4xU8 e = one (unpacked_formed (laws R x_u8) Four U32 a refl refl)
  good Unpack2x16snorm e = one (unpacked_formed (laws R x16snorm) Two F32 a refl refl)
  good Unpack2x16unorm e = one (unpacked_formed (laws R x16unorm) Two F32 a refl refl)
  good Unpack2x16float e = one (unpacked_formed (laws R x16float) Two F32 a refl refl)
  good Floor e = lanes1 Floats refl e _ (whole_lane_fits _ (scalar_of a.kind))
  good Ceil e = lanes1 Floats refl e _ (whole_lane_fits _ (scalar_of a.kind))
  good Trunc e = lanes1 Floats refl e _ (whole_lane_fits _ (scalar_of a.kind))
  good Round e = lanes1 Floats refl e _ (whole_lane_fits _ (scalar_of a.kind))
  good Fract e = lanes1 Floats refl e _ (fract_lane_fits (scalar_of a.kind))
  good Unknown e = absurd (unknown e)

pub answers_formed : AnswersFormed
answers_formed R c h r =
    let e = unrefused R c r in
    subst AnswerFormed (sym (folds R c.builtin c.count c.target c.a c.b c.c e)) (good R c.count c.target c.a c.b c.c h.a h.b h.c c.builtin e)
