-- An outcome passes where its arm's test does; and what passes has its two types at places up to 20, which are those of scalars and vectors. Builtin by builtin. Assumes nothing.
use Prim.Native.Nat.{ℕ, ◌≤◌}
use mathlib.Core.Bool.{Bool, true}
use mathlib.Core.List.{List}
use mathlib.Core.Path.{◌≡◌, refl}
use native.Mathlib.Omega.{arith}
use borrow.Author.Tests.{leb-true}
use lib.Dec.{leb}
use Rattle.readings.specs.declared.Reading.{Reading}
use Rattle.values.specs.declared.Scalar.{Scalar}
use Rattle.values.specs.declared.Scalar.TheVariants.{Boolean, I32, U32, F32, F16}
use Rattle.values.specs.declared.Kind.{Kind}
use Rattle.values.specs.declared.Kind.TheVariants.{One}
use Rattle.values.specs.declared.Value.{Value}
use Rattle.values.specs.Value.{scalar_of, shaped, place, kind_at}
use Rattle.values.proofs.Places.{each}
use Rattle.calls.specs.declared.Builtin.{Builtin}
use Rattle.calls.specs.declared.Builtin.TheVariants.{All, Any, Select, Abs, Sign, CountLeadingZeros, CountOneBits, CountTrailingZeros, Min, Max, Clamp, Saturate, Step, Cross, Dot, Transpose, Frexp, Ldexp, Bitcast, Pack4x8snorm, Pack4x8unorm, Pack4xI8, Pack4xI8Clamp, Pack4xU8, Pack4xU8Clamp, Pack2x16snorm, Pack2x16unorm, Pack2x16float, Unpack4x8snorm, Unpack4x8unorm, Unpack4xI8, Unpack4xU8, Unpack2x16snorm, Unpack2x16unorm, Unpack2x16float, Floor, Ceil, Trunc, Round, Fract, Unknown}
use Rattle.calls.specs.Table.{Numbers, taken, takes}
use Rattle.calls.specs.Refuse.{judged}
use Rattle.calls.proofs.Converse.{from_implied}
use Rattle.calls.proofs.Passed.{cast}
use Rattle.arms.specs.declared.Outcome.{Outcome}
use Rattle.arms.specs.Program.{outcome}

scalar_within : (s : Scalar) → place (One s) ≤ 20
scalar_within Boolean = omega arith
scalar_within I32 = omega arith
scalar_within U32 = omega arith
scalar_within F32 = omega arith
scalar_within F16 = omega arith

shaped_within : (k : Kind) → place (shaped I32 k) ≤ 20
shaped_within k = leb-true (place (shaped I32 k)) 20 (each (λ l. leb (place (shaped I32 l)) 20) refl k)

number_within : (k : Kind) → taken Numbers k ≡ true → place k ≤ 20
number_within k h = leb-true (place k) 20 (from_implied (taken Numbers) (λ l. leb (place l) 20) refl k h)

pub record Within (o : Outcome) : Type 0 where
  pub first : o.first ≤ 20
  pub second : o.second ≤ 20

-- with no second type
alone : {o : Outcome} → o.first ≤ 20 → o.second ≡ 0 → Within o
alone h e = record { first = h; second = omega arith }

module _ (R : Reading) (ok : Bool) (t p : ℕ) (x : List ℕ) (b c : Value) where
  pub passes_as_lem : (which : Builtin) → (outcome R which ok t p x b c).passes ≡ ok
  passes_as_lem All = refl
  passes_as_lem Any = refl
  passes_as_lem Select = refl
  passes_as_lem Abs = refl
  passes_as_lem Sign = refl
  passes_as_lem CountLeadingZeros = refl
  passes_as_lem CountOneBits = refl
  passes_as_lem CountTrailingZeros = refl
  passes_as_lem Min = refl
  passes_as_lem Max = refl
  passes_as_lem Clamp = refl
  passes_as_lem Saturate = refl
  passes_as_lem Step = refl
  passes_as_lem Cross = refl
  passes_as_lem Dot = refl
  passes_as_lem Transpose = refl
  passes_as_lem Frexp = refl
  passes_as_lem Ldexp = refl
  passes_as_lem Bitcast = refl
  passes_as_lem Pack4x8snorm = refl
  passes_as_lem Pack4x8unorm = refl
  passes_as_lem Pack4xI8 = refl
  passes_as_lem Pack4xI8Clamp = refl
  passes_as_lem Pack4xU8 = refl
  passes_as_lem Pack4xU8Clamp = refl
  passes_as_lem Pack2x16snorm = refl
  passes_as_lem Pack2x16unorm = refl
  passes_as_lem Pack2x16float = refl
  passes_as_lem Unpack4x8snorm = refl
  passes_as_lem Unpack4x8unorm = refl
  passes_as_lem Unpack4xI8 = refl
  passes_as_lem Unpack4xU8 = refl
  passes_as_lem Unpack2x16snorm = refl
  passes_as_lem Unpack2x16unorm = refl
  passes_as_lem Unpack2x16float = refl
  passes_as_lem Floor = refl
  passes_as_lem Ceil = refl
  passes_as_lem Trunc = refl
  passes_as_lem Round = refl
  passes_as_lem Fract = refl
  passes_as_lem Unknown = refl

  pub within : (n : ℕ) (a : Value) → p ≤ 20 → (which : Builtin) → judged (takes which) n (kind_at t) a b c ≡ 0 → Within (outcome R which ok t p x b c)
  within n a h All j = alone (omega arith) refl
  within n a h Any j = alone (omega arith) refl
  within n a h Select j = alone h refl
  within n a h Abs j = alone h refl
  within n a h Sign j = alone h refl
  within n a h CountLeadingZeros j = alone h refl
  within n a h CountOneBits j = alone h refl
  within n a h CountTrailingZeros j = alone h refl
  within n a h Min j = alone h refl
  within n a h Max j = alone h refl
  within n a h Clamp j = alone h refl
  within n a h Saturate j = alone h refl
  within n a h Step j = alone h refl
  within n a h Cross j = alone h refl
  within n a h Dot j = alone (scalar_within (scalar_of (kind_at p))) refl
  within n a h Transpose j = alone h refl
  within n a h Frexp j = record { first = h; second = shaped_within (kind_at p) }
  within n a h Ldexp j = alone h refl
  within n a h Bitcast j = alone (number_within (kind_at t) (cast n (kind_at t) a b c Numbers j).target) refl
  within n a h Pack4x8snorm j = alone (omega arith) refl
  within n a h Pack4x8unorm j = alone (omega arith) refl
  within n a h Pack4xI8 j = alone (omega arith) refl
  within n a h Pack4xI8Clamp j = alone (omega arith) refl
  within n a h Pack4xU8 j = alone (omega arith) refl
  within n a h Pack4xU8Clamp j = alone (omega arith) refl
  within n a h Pack2x16snorm j = alone (omega arith) refl
  within n a h Pack2x16unorm j = alone (omega arith) refl
  within n a h Pack2x16float j = alone (omega arith) refl
  within n a h Unpack4x8snorm j = alone (omega arith) refl
  within n a h Unpack4x8unorm j = alone (omega arith) refl
  within n a h Unpack4xI8 j = alone (omega arith) refl
  within n a h Unpack4xU8 j = alone (omega arith) refl
  within n a h Unpack2x16snorm j = alone (omega arith) refl
  within n a h Unpack2x16unorm j = alone (omega arith) refl
  within n a h Unpack2x16float j = alone (omega arith) refl
  within n a h Floor j = alone h refl
  within n a h Ceil j = alone h refl
  within n a h Trunc j = alone h refl
  within n a h Round j = alone h refl
  within n a h Fract j = alone h refl
  within n a h Unknown j = alone h refl
