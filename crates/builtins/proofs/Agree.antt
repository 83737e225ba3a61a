-- What the arm of a call works out is its builtin's answer, where nothing refuses the call and its first value is a scalar or a vector: builtin by builtin, by the law of its shape. Assumes nothing.
use Prim.Native.Nat.{ℕ}
use mathlib.Core.Bool.{Bool, true, false≢true}
use mathlib.Core.Path.{◌≡◌, refl}
use native.Mathlib.Omega.{arith}
use lib.ListN.{length}
use Rattle.readings.specs.declared.Reading.{Reading}
use Rattle.values.specs.declared.Scalar.TheVariants.{I32, U32, F32}
use Rattle.values.specs.declared.Size.TheVariants.{Two, Three, Four}
use Rattle.values.specs.declared.Kind.{Kind}
use Rattle.values.specs.declared.Kind.TheVariants.{Empty, One, Vec, Mat}
use Rattle.values.specs.declared.Value.{Value}
use Rattle.values.specs.Value.{scalar_of, place, kind_at, well_formed}
use Rattle.values.specs.Program.{is_lanes}
use Rattle.values.proofs.Places.{same}
use Rattle.numeric.specs.Numeric.{abs_lane, sign_lane, leading_lane, ones_lane, trailing_lane}
use Rattle.limits.specs.Limits.{min_lane, max_lane, clamp_lane, saturate_lane, step_lane}
use Rattle.exponent.specs.Exponent.{ldexp_lane}
use Rattle.rounding.specs.declared.Way.TheVariants as To
use Rattle.rounding.specs.Lanes.{whole_lane, fract_lane}
use Rattle.calls.specs.declared.Builtin.{Builtin}
use Rattle.calls.specs.declared.Builtin.TheVariants.{All, Any, Select, Abs, Sign, CountLeadingZeros, CountOneBits, CountTrailingZeros, Min, Max, Clamp, Saturate, Step, Cross, Dot, Transpose, Frexp, Ldexp, Bitcast, Pack4x8snorm, Pack4x8unorm, Pack4xI8, Pack4xI8Clamp, Pack4xU8, Pack4xU8Clamp, Pack2x16snorm, Pack2x16unorm, Pack2x16float, Unpack4x8snorm, Unpack4x8unorm, Unpack4xI8, Unpack4xU8, Unpack2x16snorm, Unpack2x16unorm, Unpack2x16float, Floor, Ceil, Trunc, Round, Fract, Unknown}
use Rattle.calls.specs.Table.{Taken, Anything, Booleans, Numbers, Integers, Ordered, Floats, Singles, I32s, Vectors, Matrices, Only, OneType, Selectable, SameShape, Unary, Binary, Absent, matrix, takes}
use Rattle.calls.specs.Refuse.{judged}
use Rattle.calls.specs.Program.{Passed2}
use Rattle.calls.proofs.Passed.{unary, binary, ternary, cast}
use Rattle.packing.specs.declared.Coding8.TheVariants as Of8
use Rattle.packing.specs.declared.Coding16.TheVariants as Of16
use Rattle.packing.specs.Program.{code8_of, lane8_of, code16_of, lane16_of}
use Rattle.builtins.specs.Fold.{answer_by}
use Rattle.arms.specs.Program.{cut_of, outcome}
use Rattle.builtins.specs.Program.{answer_in}
use Rattle.builtins.proofs.AgreeLanes.{agree1, agree2, agree3, agree_select}
use Rattle.builtins.proofs.AgreeOthers.{agree_all, agree_any, agree_frexp, agree_pack, agree_halves, agree_clamped, agree_unpack, agree_bitcast, agree_cross, agree_dot}

no_matrix : (k : Kind) → is_lanes k ≡ true → matrix k ≡ true → ⊥
no_matrix Empty i m = false≢true m
no_matrix (One s) i m = false≢true m
no_matrix (Vec n s) i m = false≢true m
no_matrix (Mat c r w) i m = false≢true i

module _ (R : Reading) (ok : Bool) (n t : ℕ) (a b c : Value) (la : length a.lanes ≡ 16) (lb : length b.lanes ≡ 16) (lc : length c.lanes ≡ 16) (is : is_lanes a.kind ≡ true) where
  formed1 : (p : Taken) → judged (Unary p) n (kind_at t) a b c ≡ 0 → well_formed a ≡ true
  formed1 p j = (unary n (kind_at t) a b c p j).formed

  passed2 : (p : Taken) → judged (Binary p p OneType) n (kind_at t) a b c ≡ 0 → Passed2 p p OneType a b
  passed2 p j = binary n (kind_at t) a b c p p OneType j

  unknown : judged Absent n (kind_at t) a b c ≡ 0 → ⊥
  unfolding judged
  unknown j = omega arith

  pub agree : (which : Builtin) → judged (takes which) n (kind_at t) a b c ≡ 0 → answer_in (outcome R which ok t (place a.kind) (cut_of a) b c) ≡ answer_by R which (kind_at t) a b c
  agree All j = agree_all ok a la is (formed1 Booleans j)
  agree Any j = agree_any ok a la is (formed1 Booleans j)
  agree Select j = agree_select ok la lb lc is (ternary n (kind_at t) a b c Anything Anything Booleans Selectable j)
  agree Abs j = agree1 ok a la is (formed1 Numbers j) (λ k. abs_lane (scalar_of k))
  agree Sign j = agree1 ok a la is (formed1 Numbers j) (λ k. sign_lane (scalar_of k))
  agree CountLeadingZeros j = agree1 ok a la is (formed1 Integers j) (λ k. leading_lane)
  agree CountOneBits j = agree1 ok a la is (formed1 Integers j) (λ k. ones_lane)
  agree CountTrailingZeros j = agree1 ok a la is (formed1 Integers j) (λ k. trailing_lane)
  agree Min j = let q = passed2 Ordered j in agree2 ok a la is q.first.formed b lb q.second.formed (λ k. min_lane (scalar_of k))
  agree Max j = let q = passed2 Ordered j in agree2 ok a la is q.first.formed b lb q.second.formed (λ k. max_lane (scalar_of k))
  agree Clamp j =
      let q = ternary n (kind_at t) a b c Ordered Ordered Ordered OneType j in
      agree3 ok a la is q.first.formed b lb q.second.formed c lc q.third.formed (λ k. clamp_lane (scalar_of k))
  agree Saturate j = agree1 ok a la is (formed1 Singles j) (λ k. saturate_lane)
  agree Step j = let q = passed2 Floats j in agree2 ok a la is q.first.formed b lb q.second.formed (λ k. step_lane (scalar_of k))
  agree Cross j = let q = passed2 (Only (Vec Three F32)) j in agree_cross ok a b q.first.formed q.second.formed (same q.first.alone)
  agree Dot j = let q = passed2 Vectors j in agree_dot ok a b q.first.formed q.second.formed is
  agree Transpose j = absurd (no_matrix a.kind is (unary n (kind_at t) a b c Matrices j).alone)
  agree Frexp j = agree_frexp ok a la is (formed1 Floats j)
  agree Ldexp j =
      let q = binary n (kind_at t) a b c Singles I32s SameShape j in
      agree2 ok a la is q.first.formed b lb q.second.formed (λ k. ldexp_lane)
  agree Bitcast j = agree_bitcast ok a t la (cast n (kind_at t) a b c Numbers j)
  agree Pack4x8snorm j = agree_pack ok a Four F32 8 (code8_of R Of8.Snorm) la (unary n (kind_at t) a b c (Only (Vec Four F32)) j)
  agree Pack4x8unorm j = agree_pack ok a Four F32 8 (code8_of R Of8.Unorm) la (unary n (kind_at t) a b c (Only (Vec Four F32)) j)
  agree Pack4xI8 j = agree_pack ok a Four I32 8 (code8_of R Of8.Signed) la (unary n (kind_at t) a b c (Only (Vec Four I32)) j)
  agree Pack4xI8Clamp j = agree_clamped ok a R la (unary n (kind_at t) a b c (Only (Vec Four I32)) j)
  agree Pack4xU8 j = agree_pack ok a Four U32 8 (code8_of R Of8.Unsigned) la (unary n (kind_at t) a b c (Only (Vec Four U32)) j)
  agree Pack4xU8Clamp j = agree_pack ok a Four U32 8 (code8_of R Of8.ClampedUnsigned) la (unary n (kind_at t) a b c (Only (Vec Four U32)) j)
  agree Pack2x16snorm j = agree_pack ok a Two F32 16 (code16_of R Of16.Snorm) la (unary n (kind_at t) a b c (Only (Vec Two F32)) j)
  agree Pack2x16unorm j = agree_pack ok a Two F32 16 (code16_of R Of16.Unorm) la (unary n (kind_at t) a b c (Only (Vec Two F32)) j)
  agree Pack2x16float j = agree_halves ok a la (unary n (kind_at t) a b c (Only (Vec Two F32)) j)
  agree Unpack4x8snorm j = agree_unpack ok a 8 4 (lane8_of Of8.Snorm) (Vec Four F32) _ (formed1 (Only (One U32)) j) refl
  agree Unpack4x8unorm j = agree_unpack ok a 8 4 (lane8_of Of8.Unorm) (Vec Four F32) _ (formed1 (Only (One U32)) j) refl
  agree Unpack4xI8 j = agree_unpack ok a 8 4 (lane8_of Of8.Signed) (Vec Four I32) _ (formed1 (Only (One U32)) j) refl
  agree Unpack4xU8 j = agree_unpack ok a 8 4 (lane8_of Of8.Unsigned) (Vec Four U32) _ (formed1 (Only (One U32)) j) refl
  agree Unpack2x16snorm j = agree_unpack ok a 16 2 (lane16_of Of16.Snorm) (Vec Two F32) _ (formed1 (Only (One U32)) j) refl
  agree Unpack2x16unorm j = agree_unpack ok a 16 2 (lane16_of Of16.Unorm) (Vec Two F32) _ (formed1 (Only (One U32)) j) refl
  agree Unpack2x16float j = agree_unpack ok a 16 2 (lane16_of Of16.Float) (Vec Two F32) _ (formed1 (Only (One U32)) j) refl
  agree Floor j = agree1 ok a la is (formed1 Floats j) (λ k. whole_lane To.Floor (scalar_of k))
  agree Ceil j = agree1 ok a la is (formed1 Floats j) (λ k. whole_lane To.Ceil (scalar_of k))
  agree Trunc j = agree1 ok a la is (formed1 Floats j) (λ k. whole_lane To.Trunc (scalar_of k))
  agree Round j = agree1 ok a la is (formed1 Floats j) (λ k. whole_lane To.Round (scalar_of k))
  agree Fract j = agree1 ok a la is (formed1 Floats j) (λ k. fract_lane (scalar_of k))
  agree Unknown j = absurd (unknown j)
