-- The marked numbers of 01, "Numbers at the edges": one list of calls and answers, and one proof, by computation, that `fold_of` gives each; and 02's number of the text's reading. Assumes nothing.
use mathlib.Core.Path.{◌≡◌, refl}
use Prim.Native.Nat.{ℕ, ◌^◌, ◌-◌}
use mathlib.Core.List.{List, [], ◌∷◌, map}
use lib.Ieee as Ieee
use Rattle.half.specs.Format as F
use Rattle.half.specs.Convert as C
use Rattle.readings.specs.declared.Reading.TheVariants as In
use Rattle.values.specs.declared.Scalar.{Scalar}
use Rattle.values.specs.declared.Scalar.TheVariants.{I32, U32, F32}
use Rattle.values.specs.declared.Size.TheVariants.{Two, Four}
use Rattle.values.specs.declared.Kind.TheVariants.{Empty, One, Vec}
use Rattle.values.specs.declared.Value.{Value}
use Rattle.calls.specs.declared.Builtin.{Builtin}
use Rattle.calls.specs.declared.Builtin.TheVariants.{Max, Clamp, Dot, Frexp, Ldexp, Pack4x8snorm, Pack4x8unorm, Pack4xI8Clamp, Pack4xU8Clamp, Pack2x16float, Unpack4x8snorm}
use Rattle.calls.specs.declared.Call.{Call}
use Rattle.calls.specs.Refuse.{judged}
use Rattle.builtins.specs.declared.Answer.{Answer}
use Rattle.values.specs.Value.{value, empty_value, well_formed, lanewise, lanewise2, lanewise3}
use Rattle.builtins.specs.Numeric.{dot_of}
use Rattle.exponent.specs.Exponent.{fraction, exponent, ldexp}
use Rattle.norm.specs.Norm.{stepped, floor_code, packed_norm, unpacked_norm}
use Rattle.exact.specs.Exact.{clamped_size, floor_half, exact_code}
use Rattle.builtins.specs.Exponent.{fraction_of, exponent_of}
use Rattle.losses.specs.Losses.{loss_between}
use Rattle.builtins.specs.Pack.{filled, packed, unpacked, loss_in}
use Rattle.builtins.specs.Fold.{refused, answered, answered_twice, answered_losing, fold_in, fold_of}

abbrev call : Builtin → ℕ → Value → Value → Value → Call
call f n x y z = record { builtin = f; count = n; target = Empty; a = x; b = y; c = z }

abbrev call1 : Builtin → Value → Call
call1 f x = call f 1 x empty_value empty_value

abbrev call2 : Builtin → Value → Value → Call
call2 f x y = call f 2 x y empty_value

abbrev scalar : Scalar → ℕ → Value
scalar s x = value (One s) (x ∷ [])

abbrev pair : Scalar → ℕ → ℕ → Value
pair s x y = value (Vec Two s) (x ∷ y ∷ [])

abbrev four : Scalar → ℕ → ℕ → ℕ → ℕ → Value
four s x y z w = value (Vec Four s) (x ∷ y ∷ z ∷ w ∷ [])

-- -n as an i32
abbrev minus : ℕ → ℕ
minus n = 2 ^ 32 - n

abbrev gives : Call → Value → Call × Answer
gives c v = (c, answered v)

-- with what is lost
abbrev loses : ℕ → Call → Value → Call × Answer
loses n c v = (c, answered_losing n v)

abbrev pub marked : List (Call × Answer)
marked =
    gives (call1 Pack4x8unorm (four F32 0x3b00_8080 0 0 0)) (scalar U32 0x0000_0001)
    ∷ gives (call1 Pack4x8snorm (four F32 0x3f80_0000 0xbf80_0000 0x3f00_0000 0xbf00_0000)) (scalar U32 0xc140_817f)
    ∷ gives (call1 Pack4x8snorm (four F32 0x7fc0_0000 0xffc0_0000 0x7f80_0001 0xffff_ffff)) (scalar U32 0x0000_0000)
    ∷ gives (call1 Pack4x8snorm (fold_of (call1 Unpack4x8snorm (scalar U32 0x8080_8080))).first) (scalar U32 0x8181_8181)
    ∷ gives (call1 Pack4xI8Clamp (four I32 (minus 1) 0 0 0)) (scalar U32 0xffff_ffff)
    ∷ gives (call1 Pack4xU8Clamp (four U32 256 0 0 0)) (scalar U32 0)
    ∷ loses 2 (call1 Pack2x16float (pair F32 0x477f_efff 0x477f_f000)) (scalar U32 0x7c00_7bff)
    ∷ loses 1 (call1 Pack2x16float (pair F32 0x3300_0000 0x3300_0001)) (scalar U32 0x0001_0000)
    ∷ (call1 Frexp (scalar F32 0x8000_0000), answered_twice (scalar F32 0x8000_0000) (scalar I32 0))
    ∷ gives (call2 Ldexp (scalar F32 0x3f80_0000) (scalar I32 128)) (scalar F32 0x7f80_0000)
    ∷ gives (call2 Ldexp (scalar F32 0x3f80_0000) (scalar I32 (minus 149))) (scalar F32 0x0000_0001)
    ∷ gives (call2 Ldexp (scalar F32 0x3f80_0000) (scalar I32 (minus 150))) (scalar F32 0)
    ∷ gives (call2 Ldexp (scalar F32 0x3fc0_0000) (scalar I32 (minus 150))) (scalar F32 0x0000_0001)
    ∷ gives (call2 Max (scalar F32 0x8000_0000) (scalar F32 0)) (scalar F32 0x8000_0000)
    ∷ gives (call2 Max (scalar F32 0x7fc0_0000) (scalar F32 0xbf80_0000)) (scalar F32 0xbf80_0000)
    ∷ gives (call Clamp 3 (scalar I32 5) (scalar I32 7) (scalar I32 3)) (scalar I32 3)
    ∷ gives (call2 Dot (pair U32 0xffff_ffff 2) (pair U32 2 3)) (scalar U32 4)
    ∷ []

pub holds : map (λ (p : Call × Answer). fold_of p.0) marked ≡ map (λ (p : Call × Answer). p.1) marked
unfolding fold_in judged refused answered answered_twice answered_losing loss_in loss_between value empty_value well_formed lanewise lanewise2 lanewise3 dot_of fraction exponent fraction_of exponent_of stepped floor_code packed_norm unpacked_norm filled packed unpacked ldexp F.fields F.pattern F.rounded F.magnitude_of C.converted_magnitude C.converted Ieee.size Ieee.of_bits Ieee.to_bits Ieee.add Ieee.mul Ieee.div Ieee.lt Ieee.is_nan Ieee.of_int
holds = refl

-- 02, Q-1: "3B008080 then gives 0"
pub text_holds : fold_in In.Text (call1 Pack4x8unorm (four F32 0x3b00_8080 0 0 0)) ≡ answered (scalar U32 0)
unfolding fold_in judged answered value empty_value well_formed packed exact_code clamped_size floor_half F.fields
text_holds = refl
