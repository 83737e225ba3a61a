-- What each builtin takes: the table of 01, "Values and builtins taken", and its builtins by number. Definitions only.
use Rattle.std.specs.Prelude.{ℕ, Bool, true, false, ◌&&◌, ◌||◌, List, [], ◌∷◌, eqb, get_or}
use Rattle.values.specs.declared.Scalar.{Scalar}
use Rattle.values.specs.declared.Scalar.TheVariants.{Boolean, I32, U32, F32, F16}
use Rattle.values.specs.declared.Size.TheVariants.{Two, Three, Four}
use Rattle.values.specs.declared.Kind.{Kind}
use Rattle.values.specs.declared.Kind.TheVariants.{Empty, One, Vec, Mat}
use Rattle.values.specs.Value.{shaped, scalar_place, same_kind}
use Rattle.calls.specs.declared.Builtin.{Builtin}
use Rattle.calls.specs.declared.Builtin.TheVariants.{All, Any, Select, Abs, Sign, CountLeadingZeros, CountOneBits, CountTrailingZeros, Min, Max, Clamp, Saturate, Step, Cross, Dot, Transpose, Frexp, Ldexp, Bitcast, Pack4x8snorm, Pack4x8unorm, Pack4xI8, Pack4xI8Clamp, Pack4xU8, Pack4xU8Clamp, Pack2x16snorm, Pack2x16unorm, Pack2x16float, Unpack4x8snorm, Unpack4x8unorm, Unpack4xI8, Unpack4xU8, Unpack2x16snorm, Unpack2x16unorm, Unpack2x16float, Floor, Ceil, Trunc, Round, Fract, Unknown}

-- ---- what a row says

-- What is taken in an argument's place: any type, the one type of Only, or a scalar or a vector of the scalars that are named, but Vectors only a vector of them, and Matrices any matrix.
pub data Taken : Type 0 where
  Anything : Taken
  Booleans : Taken
  Numbers : Taken
  Integers : Taken
  Ordered : Taken
  Floats : Taken
  Singles : Taken
  I32s : Taken
  Vectors : Taken
  Matrices : Taken
  Only : Kind → Taken

-- What is asked of arguments together.
pub data Together : Type 0 where
  OneType : Together
  Selectable : Together
  SameShape : Together

-- What is taken in each place, and together. Cast is bitcast's, whose type field and whose value are taken alike.
pub data Row : Type 0 where
  Absent : Row
  Unary : Taken → Row
  Binary : Taken → Taken → Together → Row
  Ternary : Taken → Taken → Taken → Together → Row
  Cast : Taken → Row

-- ---- what is taken in a place

abbrev pub among : List Scalar → Scalar → Bool
among [] s = false
among (t ∷ ts) s = eqb (scalar_place t) (scalar_place s) || among ts s

-- one of these scalars, or a vector of one
abbrev pub scalar_or_vector : List Scalar → Kind → Bool
scalar_or_vector ss Empty = false
scalar_or_vector ss (One s) = among ss s
scalar_or_vector ss (Vec n s) = among ss s
scalar_or_vector ss (Mat c r w) = false

abbrev pub vector : List Scalar → Kind → Bool
vector ss Empty = false
vector ss (One s) = false
vector ss (Vec n s) = among ss s
vector ss (Mat c r w) = false

abbrev pub matrix : Kind → Bool
matrix Empty = false
matrix (One s) = false
matrix (Vec n s) = false
matrix (Mat c r w) = true

abbrev pub taken : Taken → Kind → Bool
taken Anything k = true
taken Booleans k = scalar_or_vector (Boolean ∷ []) k
taken Numbers k = scalar_or_vector (I32 ∷ U32 ∷ F32 ∷ F16 ∷ []) k
taken Integers k = scalar_or_vector (I32 ∷ U32 ∷ []) k
taken Ordered k = scalar_or_vector (I32 ∷ U32 ∷ F32 ∷ []) k
taken Floats k = scalar_or_vector (F32 ∷ F16 ∷ []) k
taken Singles k = scalar_or_vector (F32 ∷ []) k
taken I32s k = scalar_or_vector (I32 ∷ []) k
taken Vectors k = vector (I32 ∷ U32 ∷ F32 ∷ []) k
taken Matrices k = matrix k
taken (Only l) k = same_kind k l

-- ---- what is taken together

-- "all of one type"; "f, t: any one type", and "a vector condition" only where they are "vectors of that length"; "then i32 of the same shape"
abbrev pub together : Together → Kind → Kind → Kind → Bool
together OneType a b c = same_kind a b && same_kind a c
together Selectable f t c = same_kind f t && (same_kind c (One Boolean) || same_kind c (shaped Boolean f))
together SameShape a b c = same_kind b (shaped I32 a)

-- ---- the table, row by row

abbrev pub takes : Builtin → Row
takes All = Unary Booleans
takes Any = Unary Booleans
takes Select = Ternary Anything Anything Booleans Selectable
takes Abs = Unary Numbers
takes Sign = Unary Numbers
takes CountLeadingZeros = Unary Integers
takes CountOneBits = Unary Integers
takes CountTrailingZeros = Unary Integers
takes Min = Binary Ordered Ordered OneType
takes Max = Binary Ordered Ordered OneType
takes Clamp = Ternary Ordered Ordered Ordered OneType
takes Saturate = Unary Singles
takes Step = Binary Floats Floats OneType
takes Cross = Binary (Only (Vec Three F32)) (Only (Vec Three F32)) OneType
takes Dot = Binary Vectors Vectors OneType
takes Transpose = Unary Matrices
takes Frexp = Unary Floats
takes Ldexp = Binary Singles I32s SameShape
takes Bitcast = Cast Numbers
takes Pack4x8snorm = Unary (Only (Vec Four F32))
takes Pack4x8unorm = Unary (Only (Vec Four F32))
takes Pack4xI8 = Unary (Only (Vec Four I32))
takes Pack4xI8Clamp = Unary (Only (Vec Four I32))
takes Pack4xU8 = Unary (Only (Vec Four U32))
takes Pack4xU8Clamp = Unary (Only (Vec Four U32))
takes Pack2x16snorm = Unary (Only (Vec Two F32))
takes Pack2x16unorm = Unary (Only (Vec Two F32))
takes Pack2x16float = Unary (Only (Vec Two F32))
takes Unpack4x8snorm = Unary (Only (One U32))
takes Unpack4x8unorm = Unary (Only (One U32))
takes Unpack4xI8 = Unary (Only (One U32))
takes Unpack4xU8 = Unary (Only (One U32))
takes Unpack2x16snorm = Unary (Only (One U32))
takes Unpack2x16unorm = Unary (Only (One U32))
takes Unpack2x16float = Unary (Only (One U32))
takes Floor = Unary Floats
takes Ceil = Unary Floats
takes Trunc = Unary Floats
takes Round = Unary Floats
takes Fract = Unary Floats
takes Unknown = Absent

-- ---- the table's builtins, in its order

abbrev pub builtins : List Builtin
builtins =
    All ∷ Any ∷ Select ∷ Abs ∷ Sign ∷ CountLeadingZeros ∷ CountOneBits
    ∷ CountTrailingZeros ∷ Min ∷ Max ∷ Clamp ∷ Saturate ∷ Step ∷ Cross
    ∷ Dot ∷ Transpose ∷ Frexp ∷ Ldexp ∷ Bitcast ∷ Pack4x8snorm ∷ Pack4x8unorm
    ∷ Pack4xI8 ∷ Pack4xI8Clamp ∷ Pack4xU8 ∷ Pack4xU8Clamp ∷ Pack2x16snorm ∷ Pack2x16unorm ∷ Pack2x16float
    ∷ Unpack4x8snorm ∷ Unpack4x8unorm ∷ Unpack4xI8 ∷ Unpack4xU8 ∷ Unpack2x16snorm ∷ Unpack2x16unorm ∷ Unpack2x16float
    ∷ Floor ∷ Ceil ∷ Trunc ∷ Round ∷ Fract ∷ []

-- the builtin of a number, its place in 01's table from 1, and Unknown of 0 and of numbers past the last
unfoldable pub builtin_at : ℕ → Builtin
builtin_at n = get_or (Unknown ∷ builtins) n Unknown
