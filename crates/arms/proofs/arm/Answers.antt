-- One answer for each builtin: what its function ensures, of the shape and the types of its row. Assumes nothing.
use mathlib.Core.Path.{◌∙◌}
use Rattle.arms.proofs.arm.Goals as goal

pub ldexp-requires : goal.ldexp-requires
ldexp-requires c = (c.requires.1, c.types_of-in-Ldexp.ensures)

pub bitcast-requires : goal.bitcast-requires
bitcast-requires c = (c.requires.1, c.types_of-in-Bitcast.ensures, c.requires.0)

pub returns-in-All : goal.returns-in-All
returns-in-All c = rw (c.in-All.is, ← c.types_of.ensures) c.all.ensures

pub returns-in-Any : goal.returns-in-Any
returns-in-Any c = rw (c.in-Any.is, ← c.types_of-in-Any.ensures) c.any.ensures

pub returns-in-Select : goal.returns-in-Select
returns-in-Select c = rw (c.in-Select.is, ← c.types_of-in-Select.ensures) c.select.ensures

pub returns-in-Abs : goal.returns-in-Abs
returns-in-Abs c = rw (c.in-Abs.is, ← c.types_of-in-Abs.ensures) c.abs.ensures

pub returns-in-Sign : goal.returns-in-Sign
returns-in-Sign c = rw (c.in-Sign.is, ← c.types_of-in-Sign.ensures) c.sign.ensures

pub returns-in-CountLeadingZeros : goal.returns-in-CountLeadingZeros
returns-in-CountLeadingZeros c = rw (c.in-CountLeadingZeros.is, ← c.types_of-in-CountLeadingZeros.ensures) c.count_leading_zeros.ensures

pub returns-in-CountOneBits : goal.returns-in-CountOneBits
returns-in-CountOneBits c = rw (c.in-CountOneBits.is, ← c.types_of-in-CountOneBits.ensures) c.count_one_bits.ensures

pub returns-in-CountTrailingZeros : goal.returns-in-CountTrailingZeros
returns-in-CountTrailingZeros c = rw (c.in-CountTrailingZeros.is, ← c.types_of-in-CountTrailingZeros.ensures) c.count_trailing_zeros.ensures

pub returns-in-Min : goal.returns-in-Min
returns-in-Min c = rw (c.in-Min.is, ← c.types_of-in-Min.ensures) c.min.ensures

pub returns-in-Max : goal.returns-in-Max
returns-in-Max c = rw (c.in-Max.is, ← c.types_of-in-Max.ensures) c.max.ensures

pub returns-in-Clamp : goal.returns-in-Clamp
returns-in-Clamp c = rw (c.in-Clamp.is, ← c.types_of-in-Clamp.ensures) c.clamp.ensures

pub returns-in-Saturate : goal.returns-in-Saturate
returns-in-Saturate c = rw (c.in-Saturate.is, ← c.types_of-in-Saturate.ensures) c.saturate.ensures

pub returns-in-Step : goal.returns-in-Step
returns-in-Step c = rw (c.in-Step.is, ← c.types_of-in-Step.ensures) c.step.ensures

pub returns-in-Cross : goal.returns-in-Cross
returns-in-Cross c = rw (c.in-Cross.is, ← c.types_of-in-Cross.ensures) c.cross.ensures

pub returns-in-Dot : goal.returns-in-Dot
returns-in-Dot c = rw (c.in-Dot.is, ← c.types_of-in-Dot.ensures) c.dot.ensures

pub returns-in-Transpose : goal.returns-in-Transpose
returns-in-Transpose c = rw (c.in-Transpose.is, ← c.types_of-in-Transpose.ensures) (c.given.ensures ∙ rw c.one_value.ensures)

pub returns-in-Frexp : goal.returns-in-Frexp
returns-in-Frexp c = rw (c.in-Frexp.is, ← c.types_of-in-Frexp.ensures) c.frexp.ensures

pub returns-in-Ldexp : goal.returns-in-Ldexp
returns-in-Ldexp c = rw (c.in-Ldexp.is, ← c.types_of-in-Ldexp.ensures) c.ldexp.ensures

pub returns-in-Bitcast : goal.returns-in-Bitcast
returns-in-Bitcast c = rw (c.in-Bitcast.is, ← c.types_of-in-Bitcast.ensures) c.bitcast.ensures

pub returns-in-Pack4x8snorm : goal.returns-in-Pack4x8snorm
returns-in-Pack4x8snorm c = rw (c.in-Pack4x8snorm.is, ← c.types_of-in-Pack4x8snorm.ensures) c.pack8.ensures

pub returns-in-Pack4x8unorm : goal.returns-in-Pack4x8unorm
returns-in-Pack4x8unorm c = rw (c.in-Pack4x8unorm.is, ← c.types_of-in-Pack4x8unorm.ensures) c.pack8-in-Pack4x8unorm.ensures

pub returns-in-Pack4xI8 : goal.returns-in-Pack4xI8
returns-in-Pack4xI8 c = rw (c.in-Pack4xI8.is, ← c.types_of-in-Pack4xI8.ensures) c.pack8-in-Pack4xI8.ensures

pub returns-in-Pack4xI8Clamp : goal.returns-in-Pack4xI8Clamp
returns-in-Pack4xI8Clamp c = rw (c.in-Pack4xI8Clamp.is, ← c.types_of-in-Pack4xI8Clamp.ensures) c.pack_clamped.ensures

pub returns-in-Pack4xU8 : goal.returns-in-Pack4xU8
returns-in-Pack4xU8 c = rw (c.in-Pack4xU8.is, ← c.types_of-in-Pack4xU8.ensures) c.pack8-in-Pack4xU8.ensures

pub returns-in-Pack4xU8Clamp : goal.returns-in-Pack4xU8Clamp
returns-in-Pack4xU8Clamp c = rw (c.in-Pack4xU8Clamp.is, ← c.types_of-in-Pack4xU8Clamp.ensures) c.pack8-in-Pack4xU8Clamp.ensures

pub returns-in-Pack2x16snorm : goal.returns-in-Pack2x16snorm
returns-in-Pack2x16snorm c = rw (c.in-Pack2x16snorm.is, ← c.types_of-in-Pack2x16snorm.ensures) c.pack16.ensures

pub returns-in-Pack2x16unorm : goal.returns-in-Pack2x16unorm
returns-in-Pack2x16unorm c = rw (c.in-Pack2x16unorm.is, ← c.types_of-in-Pack2x16unorm.ensures) c.pack16-in-Pack2x16unorm.ensures

pub returns-in-Pack2x16float : goal.returns-in-Pack2x16float
returns-in-Pack2x16float c = rw (c.in-Pack2x16float.is, ← c.types_of-in-Pack2x16float.ensures) c.pack16-in-Pack2x16float.ensures

pub returns-in-Unpack4x8snorm : goal.returns-in-Unpack4x8snorm
returns-in-Unpack4x8snorm c = rw (c.in-Unpack4x8snorm.is, ← c.types_of-in-Unpack4x8snorm.ensures) c.unpack8.ensures

pub returns-in-Unpack4x8unorm : goal.returns-in-Unpack4x8unorm
returns-in-Unpack4x8unorm c = rw (c.in-Unpack4x8unorm.is, ← c.types_of-in-Unpack4x8unorm.ensures) c.unpack8-in-Unpack4x8unorm.ensures

pub returns-in-Unpack4xI8 : goal.returns-in-Unpack4xI8
returns-in-Unpack4xI8 c = rw (c.in-Unpack4xI8.is, ← c.types_of-in-Unpack4xI8.ensures) c.unpack8-in-Unpack4xI8.ensures

pub returns-in-Unpack4xU8 : goal.returns-in-Unpack4xU8
returns-in-Unpack4xU8 c = rw (c.in-Unpack4xU8.is, ← c.types_of-in-Unpack4xU8.ensures) c.unpack8-in-Unpack4xU8.ensures

pub returns-in-Unpack2x16snorm : goal.returns-in-Unpack2x16snorm
returns-in-Unpack2x16snorm c = rw (c.in-Unpack2x16snorm.is, ← c.types_of-in-Unpack2x16snorm.ensures) c.unpack16.ensures

pub returns-in-Unpack2x16unorm : goal.returns-in-Unpack2x16unorm
returns-in-Unpack2x16unorm c = rw (c.in-Unpack2x16unorm.is, ← c.types_of-in-Unpack2x16unorm.ensures) c.unpack16-in-Unpack2x16unorm.ensures

pub returns-in-Unpack2x16float : goal.returns-in-Unpack2x16float
returns-in-Unpack2x16float c = rw (c.in-Unpack2x16float.is, ← c.types_of-in-Unpack2x16float.ensures) c.unpack16-in-Unpack2x16float.ensures

pub returns-in-Floor : goal.returns-in-Floor
returns-in-Floor c = rw (c.in-Floor.is, ← c.types_of-in-Floor.ensures) c.whole.ensures

pub returns-in-Ceil : goal.returns-in-Ceil
returns-in-Ceil c = rw (c.in-Ceil.is, ← c.types_of-in-Ceil.ensures) c.whole-in-Ceil.ensures

pub returns-in-Trunc : goal.returns-in-Trunc
returns-in-Trunc c = rw (c.in-Trunc.is, ← c.types_of-in-Trunc.ensures) c.whole-in-Trunc.ensures

pub returns-in-Round : goal.returns-in-Round
returns-in-Round c = rw (c.in-Round.is, ← c.types_of-in-Round.ensures) c.whole-in-Round.ensures

pub returns-in-Fract : goal.returns-in-Fract
returns-in-Fract c = rw (c.in-Fract.is, ← c.types_of-in-Fract.ensures) c.fract.ensures

pub returns-in-Unknown : goal.returns-in-Unknown
returns-in-Unknown c = rw c.in-Unknown.is c.given-in-Unknown.ensures
