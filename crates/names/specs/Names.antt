-- The builtins' names: those of 01's table. Definitions only.
use Rattle.std.specs.Prelude.{ℕ, List, []}
use Rattle.calls.specs.declared.Builtin.{Builtin}
use Rattle.calls.specs.declared.Builtin.TheVariants.{All, Any, Select, Abs, Sign, CountLeadingZeros, CountOneBits, CountTrailingZeros, Min, Max, Clamp, Saturate, Step, Cross, Dot, Transpose, Frexp, Ldexp, Bitcast, Pack4x8snorm, Pack4x8unorm, Pack4xI8, Pack4xI8Clamp, Pack4xU8, Pack4xU8Clamp, Pack2x16snorm, Pack2x16unorm, Pack2x16float, Unpack4x8snorm, Unpack4x8unorm, Unpack4xI8, Unpack4xU8, Unpack2x16snorm, Unpack2x16unorm, Unpack2x16float, Floor, Ceil, Trunc, Round, Fract, Unknown}
use Rattle.calls.specs.Table.{builtins}
use Rattle.buffers.specs.Text.{bytes, first_spelled}

abbrev pub name_of : Builtin → List ℕ
name_of All = bytes "all"
name_of Any = bytes "any"
name_of Select = bytes "select"
name_of Abs = bytes "abs"
name_of Sign = bytes "sign"
name_of CountLeadingZeros = bytes "countLeadingZeros"
name_of CountOneBits = bytes "countOneBits"
name_of CountTrailingZeros = bytes "countTrailingZeros"
name_of Min = bytes "min"
name_of Max = bytes "max"
name_of Clamp = bytes "clamp"
name_of Saturate = bytes "saturate"
name_of Step = bytes "step"
name_of Cross = bytes "cross"
name_of Dot = bytes "dot"
name_of Transpose = bytes "transpose"
name_of Frexp = bytes "frexp"
name_of Ldexp = bytes "ldexp"
name_of Bitcast = bytes "bitcast"
name_of Pack4x8snorm = bytes "pack4x8snorm"
name_of Pack4x8unorm = bytes "pack4x8unorm"
name_of Pack4xI8 = bytes "pack4xI8"
name_of Pack4xI8Clamp = bytes "pack4xI8Clamp"
name_of Pack4xU8 = bytes "pack4xU8"
name_of Pack4xU8Clamp = bytes "pack4xU8Clamp"
name_of Pack2x16snorm = bytes "pack2x16snorm"
name_of Pack2x16unorm = bytes "pack2x16unorm"
name_of Pack2x16float = bytes "pack2x16float"
name_of Unpack4x8snorm = bytes "unpack4x8snorm"
name_of Unpack4x8unorm = bytes "unpack4x8unorm"
name_of Unpack4xI8 = bytes "unpack4xI8"
name_of Unpack4xU8 = bytes "unpack4xU8"
name_of Unpack2x16snorm = bytes "unpack2x16snorm"
name_of Unpack2x16unorm = bytes "unpack2x16unorm"
name_of Unpack2x16float = bytes "unpack2x16float"
name_of Floor = bytes "floor"
name_of Ceil = bytes "ceil"
name_of Trunc = bytes "trunc"
name_of Round = bytes "round"
name_of Fract = bytes "fract"
name_of Unknown = []

-- Unknown where no builtin has that name
unfoldable pub builtin_of : List ℕ → Builtin
builtin_of s = first_spelled name_of Unknown builtins s
