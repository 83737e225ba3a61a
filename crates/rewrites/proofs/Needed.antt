-- Why the laws have their conditions, and which are none: the least calls at which each fails. By computation, in the crate's reading. Assumes nothing.
use mathlib.Core.Path.{◌≡◌, refl}
use Prim.Native.Nat.{ℕ}
use mathlib.Core.List.{[], ◌∷◌}
use lib.Ieee.{lt, add, sub, mul, is_nan, of_bits, to_bits}
use Rattle.readings.specs.declared.Reading.TheVariants.{Crate}
use Rattle.values.specs.declared.Scalar.TheVariants.{I32, U32, F32}
use Rattle.values.specs.declared.Size.TheVariants.{Three}
use Rattle.values.specs.declared.Kind.TheVariants.{One, Vec}
use Rattle.values.specs.declared.Value.{Value}
use Rattle.values.specs.Value.{value, empty_value, well_formed, lanewise, lanewise2, lanewise3}
use Rattle.exponent.specs.Exponent.{fraction, exponent, ldexp}
use Rattle.calls.specs.declared.Builtin.TheVariants.{Min, Max, Clamp, Cross, Dot, Frexp, Ldexp}
use Rattle.calls.specs.Refuse.{judged}
use Rattle.builtins.specs.Numeric.{cross_of, dot_of}
use Rattle.builtins.specs.Exponent.{fraction_of, exponent_of}
use Rattle.builtins.specs.Fold.{refused, answered, answered_twice, fold_in}
use Rattle.builtins.specs.Calls.{call_three}
use Rattle.rewrites.specs.Equality.{negated}
use Rattle.rewrites.specs.Rewrites.{one, two, first}

abbrev i32 : ℕ → Value
i32 x = value (One I32) (x ∷ [])

abbrev u32 : ℕ → Value
u32 x = value (One U32) (x ∷ [])

abbrev f32 : ℕ → Value
f32 x = value (One F32) (x ∷ [])

abbrev f32s : ℕ → ℕ → ℕ → Value
f32s x y z = value (Vec Three F32) (x ∷ y ∷ z ∷ [])

-- of two zeros the first is returned: to the bit neither commutes
zeros_max : (first Crate Max (f32 0) (f32 0x8000_0000) ≡ f32 0) × (first Crate Max (f32 0x8000_0000) (f32 0) ≡ f32 0x8000_0000)
unfolding fold_in judged answered value empty_value well_formed lanewise2 lt is_nan of_bits to_bits
zeros_max = (refl, refl)

zeros_min : (first Crate Min (f32 0) (f32 0x8000_0000) ≡ f32 0) × (first Crate Min (f32 0x8000_0000) (f32 0) ≡ f32 0x8000_0000)
unfolding fold_in judged answered value empty_value well_formed lanewise2 lt is_nan of_bits to_bits
zeros_min = (refl, refl)

-- a NaN is worked out: to the bit neither is idempotent
nan_with_itself : (first Crate Min (f32 0x7f80_0001) (f32 0x7f80_0001) ≡ f32 0x7fc0_0000) × (first Crate Max (f32 0x7f80_0001) (f32 0x7f80_0001) ≡ f32 0x7fc0_0000)
unfolding fold_in judged answered value empty_value well_formed lanewise2 lt is_nan of_bits to_bits
nan_with_itself = (refl, refl)

-- a NaN absorbs nothing: what is left is b
max_of_min : first Crate Max (f32 0x7f80_0001) (first Crate Min (f32 0x7f80_0001) (f32 0)) ≡ f32 0
unfolding fold_in judged answered value empty_value well_formed lanewise2 lt is_nan of_bits to_bits
max_of_min = refl

min_of_max : first Crate Min (f32 0x7f80_0001) (first Crate Max (f32 0x7f80_0001) (f32 0)) ≡ f32 0
unfolding fold_in judged answered value empty_value well_formed lanewise2 lt is_nan of_bits to_bits
min_of_max = refl

-- clamp(e, low, high) is not max(min(e, high), low): low is 1 and high is 0
clamp_swapped : ((fold_in Crate (call_three Clamp (u32 0) (u32 1) (u32 0))).first ≡ u32 0) × (first Crate Max (first Crate Min (u32 0) (u32 0)) (u32 1) ≡ u32 1)
unfolding fold_in judged answered value empty_value well_formed lanewise2 lanewise3
clamp_swapped = (refl, refl)

-- 0 less 0 is +0, and so it is turned round
cross_of_zeros : (first Crate Cross (f32s 0 0 0) (f32s 0 0 0) ≡ f32s 0 0 0) × (lanewise negated (f32s 0 0 0) ≡ f32s 0x8000_0000 0x8000_0000 0x8000_0000)
unfolding fold_in judged answered value empty_value well_formed cross_of lanewise sub mul of_bits to_bits
cross_of_zeros = (refl, refl)

-- infinity times 0 is the NaN both ways, and its negative has the sign
cross_of_infinity : (first Crate Cross (f32s 0x7f80_0000 0 0) (f32s 0 0 0) ≡ f32s 0 0x7fc0_0000 0x7fc0_0000) × (first Crate Cross (f32s 0 0 0) (f32s 0x7f80_0000 0 0) ≡ f32s 0 0x7fc0_0000 0x7fc0_0000)
unfolding fold_in judged answered value empty_value well_formed cross_of sub mul of_bits to_bits
cross_of_infinity = (refl, refl)

-- nor is cross(a, a) zero where two lanes' product overflows
cross_with_itself : first Crate Cross (f32s 0 0x7f00_0000 0x7f00_0000) (f32s 0 0x7f00_0000 0x7f00_0000) ≡ f32s 0x7fc0_0000 0 0
unfolding fold_in judged answered value empty_value well_formed cross_of sub mul of_bits to_bits
cross_with_itself = refl

-- dot adds from lane 0 up: 2^24 + 1 - 2^24 is 0, 2^24 - 2^24 + 1 is 1
dot_in_another_order : (first Crate Dot (f32s 0x4b80_0000 0x3f80_0000 0xcb80_0000) (f32s 0x3f80_0000 0x3f80_0000 0x3f80_0000) ≡ f32 0)
    × (first Crate Dot (f32s 0x4b80_0000 0xcb80_0000 0x3f80_0000) (f32s 0x3f80_0000 0x3f80_0000 0x3f80_0000) ≡ f32 0x3f80_0000)
unfolding fold_in judged answered value empty_value well_formed dot_of add mul of_bits to_bits
dot_in_another_order = (refl, refl)

-- with a NaN min does not go into max: min(1, max(NaN, 0)) is 0, max(min(1, NaN), min(1, 0)) is 1
min_into_max : (first Crate Min (f32 0x3f80_0000) (first Crate Max (f32 0x7f80_0001) (f32 0)) ≡ f32 0)
    × (first Crate Max (first Crate Min (f32 0x3f80_0000) (f32 0x7f80_0001)) (first Crate Min (f32 0x3f80_0000) (f32 0)) ≡ f32 0x3f80_0000)
unfolding fold_in judged answered value empty_value well_formed lanewise2 lt is_nan of_bits to_bits
min_into_max = (refl, refl)

-- frexp works a NaN out
nan_rejoined : first Crate Ldexp (one Crate Frexp (f32 0x7f80_0001)).first (one Crate Frexp (f32 0x7f80_0001)).second ≡ f32 0x7fc0_0000
unfolding fold_in judged answered answered_twice value empty_value well_formed lanewise lanewise2 fraction_of exponent_of fraction exponent ldexp
nan_rejoined = refl

-- with two types min does not associate: an i32 and two u32 zeros are refused for their types, or because the call inside gave no value
two_types : ((two Crate Min (i32 0) (first Crate Min (u32 0) (u32 0))).refusal ≡ 5) × ((two Crate Min (first Crate Min (i32 0) (u32 0)) (u32 0)).refusal ≡ 3)
unfolding fold_in judged refused answered value empty_value well_formed lanewise2
two_types = (refl, refl)
