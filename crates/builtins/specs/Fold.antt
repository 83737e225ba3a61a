-- What a call gives: its refusal, or the answer of its builtin. Definitions only.
use Rattle.std.specs.Prelude.{ℕ, zero, suc, true, false}
use Rattle.half.specs.Convert.{half_of, single_of}
use Rattle.readings.specs.declared.Reading.{Reading}
use Rattle.readings.specs.declared.Reading.TheVariants as In
use Rattle.values.specs.declared.Scalar.TheVariants.{I32, U32, F32}
use Rattle.values.specs.declared.Size.TheVariants.{Two, Four}
use Rattle.values.specs.declared.Kind.{Kind}
use Rattle.values.specs.declared.Kind.TheVariants.{Vec}
use Rattle.values.specs.declared.Value.{Value}
use Rattle.calls.specs.declared.Builtin.{Builtin}
use Rattle.calls.specs.declared.Builtin.TheVariants.{All, Any, Select, Abs, Sign, CountLeadingZeros, CountOneBits, CountTrailingZeros, Min, Max, Clamp, Saturate, Step, Cross, Dot, Transpose, Frexp, Ldexp, Bitcast, Pack4x8snorm, Pack4x8unorm, Pack4xI8, Pack4xI8Clamp, Pack4xU8, Pack4xU8Clamp, Pack2x16snorm, Pack2x16unorm, Pack2x16float, Unpack4x8snorm, Unpack4x8unorm, Unpack4xI8, Unpack4xU8, Unpack2x16snorm, Unpack2x16unorm, Unpack2x16float, Floor, Ceil, Trunc, Round, Fract, Unknown}
use Rattle.calls.specs.declared.Call.{Call}
use Rattle.calls.specs.Refuse.{refusal_of}
use Rattle.builtins.specs.declared.Answer.{Answer}
use Rattle.values.specs.Value.{scalar_of, empty_value, lanewise, lanewise2, lanewise3}
use Rattle.builtins.specs.Logical.{all_of, any_of, select_of}
use Rattle.numeric.specs.Numeric.{abs_lane, sign_lane, leading_lane, ones_lane, trailing_lane}
use Rattle.limits.specs.Limits.{min_lane, max_lane, clamp_lane, saturate_lane, step_lane}
use Rattle.moves.specs.Moves.{transpose_of}
use Rattle.builtins.specs.Numeric.{cross_of, dot_of}
use Rattle.exponent.specs.Exponent.{ldexp_lane}
use Rattle.rounding.specs.declared.Way.TheVariants as To
use Rattle.rounding.specs.Lanes.{whole_lane, fract_lane}
use Rattle.packing.specs.Lanes.{low_byte, extended, plain, code_u8}
use Rattle.builtins.specs.Exponent.{fraction_of, exponent_of}
use Rattle.builtins.specs.Bitcast.{bitcast_of}
use Rattle.builtins.specs.Pack.{packed, unpacked, packed_clamped, packed_norms, unpacked_norms, loss_in}

-- "Each refusal returns its number and the empty value"; of losses, "other builtins and refused calls hand up 0"
unfoldable pub refused : ℕ → Answer
refused n = record { refusal = n; first = empty_value; second = empty_value; loss = 0 }

-- "Only frexp answers a second value; elsewhere it is empty."
unfoldable pub answered : Value → Answer
answered v = record { refusal = 0; first = v; second = empty_value; loss = 0 }

unfoldable pub answered_twice : Value → Value → Answer
answered_twice v w = record { refusal = 0; first = v; second = w; loss = 0 }

-- "pack2x16float hands up the larger of its two lanes' numbers beside the word"
unfoldable pub answered_losing : ℕ → Value → Answer
answered_losing n v = record { refusal = 0; first = v; second = empty_value; loss = n }

-- a call that is not refused. Of six packers the reading chooses the formula: "In the text's reading demand 2 is its formula for these six; all else is as before."
abbrev pub answer_by : Reading → Builtin → Kind → Value → Value → Value → Answer
answer_by r All t a b c = answered (all_of a)
answer_by r Any t a b c = answered (any_of a)
answer_by r Select t a b c = answered (select_of a b c)
answer_by r Abs t a b c = answered (lanewise (abs_lane (scalar_of a.kind)) a)
answer_by r Sign t a b c = answered (lanewise (sign_lane (scalar_of a.kind)) a)
answer_by r CountLeadingZeros t a b c = answered (lanewise leading_lane a)
answer_by r CountOneBits t a b c = answered (lanewise ones_lane a)
answer_by r CountTrailingZeros t a b c = answered (lanewise trailing_lane a)
answer_by r Min t a b c = answered (lanewise2 (min_lane (scalar_of a.kind)) a b)
answer_by r Max t a b c = answered (lanewise2 (max_lane (scalar_of a.kind)) a b)
answer_by r Clamp t a b c = answered (lanewise3 (clamp_lane (scalar_of a.kind)) a b c)
answer_by r Saturate t a b c = answered (lanewise saturate_lane a)
answer_by r Step t a b c = answered (lanewise2 (step_lane (scalar_of a.kind)) a b)
answer_by r Cross t a b c = answered (cross_of a b)
answer_by r Dot t a b c = answered (dot_of a b)
answer_by r Transpose t a b c = answered (transpose_of a)
answer_by r Frexp t a b c = answered_twice (fraction_of a) (exponent_of a)
answer_by r Ldexp t a b c = answered (lanewise2 ldexp_lane a b)
answer_by r Bitcast t a b c = answered (bitcast_of t a)
answer_by r Pack4x8snorm t a b c = answered (packed_norms r true 8 a)
answer_by r Pack4x8unorm t a b c = answered (packed_norms r false 8 a)
answer_by r Pack4xI8 t a b c = answered (packed 8 low_byte a)
answer_by r Pack4xI8Clamp t a b c = answered (packed_clamped r a)
answer_by r Pack4xU8 t a b c = answered (packed 8 low_byte a)
answer_by r Pack4xU8Clamp t a b c = answered (packed 8 (code_u8 r) a)
answer_by r Pack2x16snorm t a b c = answered (packed_norms r true 16 a)
answer_by r Pack2x16unorm t a b c = answered (packed_norms r false 16 a)
answer_by r Pack2x16float t a b c = answered_losing (loss_in a) (packed 16 half_of a)
answer_by r Unpack4x8snorm t a b c = answered (unpacked_norms true 8 4 (Vec Four F32) a)
answer_by r Unpack4x8unorm t a b c = answered (unpacked_norms false 8 4 (Vec Four F32) a)
answer_by r Unpack4xI8 t a b c = answered (unpacked 8 4 extended (Vec Four I32) a)
answer_by r Unpack4xU8 t a b c = answered (unpacked 8 4 plain (Vec Four U32) a)
answer_by r Unpack2x16snorm t a b c = answered (unpacked_norms true 16 2 (Vec Two F32) a)
answer_by r Unpack2x16unorm t a b c = answered (unpacked_norms false 16 2 (Vec Two F32) a)
answer_by r Unpack2x16float t a b c = answered (unpacked 16 2 single_of (Vec Two F32) a)
answer_by r Floor t a b c = answered (lanewise (whole_lane To.Floor (scalar_of a.kind)) a)
answer_by r Ceil t a b c = answered (lanewise (whole_lane To.Ceil (scalar_of a.kind)) a)
answer_by r Trunc t a b c = answered (lanewise (whole_lane To.Trunc (scalar_of a.kind)) a)
answer_by r Round t a b c = answered (lanewise (whole_lane To.Round (scalar_of a.kind)) a)
answer_by r Fract t a b c = answered (lanewise (fract_lane (scalar_of a.kind)) a)
answer_by r Unknown t a b c = refused 1

abbrev pub fold_by : Reading → ℕ → Call → Answer
fold_by r zero c = answer_by r c.builtin c.target c.a c.b c.c
fold_by r (suc n) c = refused (suc n)

-- what a call gives in a reading
unfoldable pub fold_in : Reading → Call → Answer
fold_in r c = fold_by r (refusal_of c) c

-- in the crate's
abbrev pub fold_of : Call → Answer
fold_of = fold_in In.Crate
