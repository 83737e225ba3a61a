-- The packed formats, by packer and unpacker: normal forms, and what holds of packing after unpacking, as statements over the reading. They are over `fold_in`, so that they are about the packers that a call reaches.
use Rattle.std.specs.Prelude.{ℕ, ◌^◌, ◌<◌, ◌≡◌, ◌↔◌, Bool, true, false, cond, map, T}
use Rattle.readings.specs.declared.Reading.{Reading}
use Rattle.readings.specs.declared.Reading.TheVariants as In
use Rattle.values.specs.declared.Scalar.TheVariants.{I32, U32, F32}
use Rattle.values.specs.declared.Size.TheVariants.{Two, Four}
use Rattle.values.specs.declared.Kind.{Kind}
use Rattle.values.specs.declared.Kind.TheVariants.{Vec}
use Rattle.values.specs.declared.Value.{Value}
use Rattle.calls.specs.declared.Builtin.{Builtin}
use Rattle.calls.specs.declared.Builtin.TheVariants.{Pack4x8snorm, Pack4x8unorm, Pack4xI8, Pack4xI8Clamp, Pack4xU8, Pack4xU8Clamp, Pack2x16snorm, Pack2x16unorm, Pack2x16float, Unpack4x8snorm, Unpack4x8unorm, Unpack4xI8, Unpack4xU8, Unpack2x16snorm, Unpack2x16unorm, Unpack2x16float}
use Rattle.values.specs.Value.{well_formed, lane}
use Rattle.numeric.specs.Parts.{parts, joined}
use Rattle.half.specs.Format.{f16, nan, is_nan}
use Rattle.norm.specs.Norm.{normal_code}
use Rattle.builtins.specs.Pack.{word}
use Rattle.builtins.specs.Fold.{fold_in}
use Rattle.builtins.specs.Calls.{call_one}

pub data Format : Type 0 where
  x8snorm x8unorm x_i8 x_u8 x_i8_clamp x_u8_clamp x16snorm x16unorm x16float : Format

abbrev pub packer : Format → Builtin
packer x8snorm = Pack4x8snorm
packer x8unorm = Pack4x8unorm
packer x_i8 = Pack4xI8
packer x_u8 = Pack4xU8
packer x_i8_clamp = Pack4xI8Clamp
packer x_u8_clamp = Pack4xU8Clamp
packer x16snorm = Pack2x16snorm
packer x16unorm = Pack2x16unorm
packer x16float = Pack2x16float

abbrev pub unpacker : Format → Builtin
unpacker x8snorm = Unpack4x8snorm
unpacker x8unorm = Unpack4x8unorm
unpacker x_i8 = Unpack4xI8
unpacker x_u8 = Unpack4xU8
unpacker x_i8_clamp = Unpack4xI8
unpacker x_u8_clamp = Unpack4xU8
unpacker x16snorm = Unpack2x16snorm
unpacker x16unorm = Unpack2x16unorm
unpacker x16float = Unpack2x16float

-- what the packer takes
abbrev pub lanes_kind : Format → Kind
lanes_kind x8snorm = Vec Four F32
lanes_kind x8unorm = Vec Four F32
lanes_kind x_i8 = Vec Four I32
lanes_kind x_u8 = Vec Four U32
lanes_kind x_i8_clamp = Vec Four I32
lanes_kind x_u8_clamp = Vec Four U32
lanes_kind x16snorm = Vec Two F32
lanes_kind x16unorm = Vec Two F32
lanes_kind x16float = Vec Two F32

-- "In half words each NaN lane becomes 7E00."
abbrev pub normal_half : ℕ → ℕ
normal_half c = cond (is_nan f16 c) (nan f16) c

-- "unorm, xI8 and xU8 words are their own", and so are those of the clamping packers. "In snorm words each lane 80 (8000) becomes 81 (8001)."
unfoldable pub normal_form : Format → ℕ → ℕ
normal_form x8snorm x = joined 8 (map (normal_code true 8) (parts 8 4 x))
normal_form x8unorm x = x
normal_form x_i8 x = x
normal_form x_u8 x = x
normal_form x_i8_clamp x = x
normal_form x_u8_clamp x = x
normal_form x16snorm x = joined 16 (map (normal_code true 16) (parts 16 2 x))
normal_form x16unorm x = x
normal_form x16float x = joined 16 (map normal_half (parts 16 2 x))

-- which formats have what follows in which reading: "Demand 3 holds in both and, in the text's, for the clamping packers with unpack4xI8 and unpack4xU8." In the crate's a negative lane of
-- pack4xI8Clamp fills every lane above it.
abbrev pub trips : Reading → Format → Bool
trips r x8snorm = true
trips r x8unorm = true
trips r x_i8 = true
trips r x_u8 = true
trips In.Crate x_i8_clamp = false
trips In.Text x_i8_clamp = true
trips r x_u8_clamp = true
trips r x16snorm = true
trips r x16unorm = true
trips r x16float = true

abbrev pub packing : Reading → Format → Value → Value
packing r f v = (fold_in r (call_one (packer f) v)).first

abbrev pub unpacking : Reading → Format → ℕ → Value
unpacking r f x = (fold_in r (call_one (unpacker f) (word x))).first

-- Packing what unpacking a word gives is the word's normal form.
abbrev pub PackUnpack : Reading → Format → Type 0
PackUnpack r f = (x : ℕ) → x < 2 ^ 32 → packing r f (unpacking r f x) ≡ word (normal_form f x)

-- Two words unpack to the same lanes exactly when their normal forms are equal.
abbrev pub SameLanes : Reading → Format → Type 0
SameLanes r f = (x y : ℕ) → x < 2 ^ 32 → y < 2 ^ 32 → (unpacking r f x ≡ unpacking r f y) ↔ (normal_form f x ≡ normal_form f y)

-- Whatever lanes are packed, the word is its own normal form.
abbrev pub PacksNormal : Reading → Format → Type 0
PacksNormal r f = (v : Value) → T (well_formed v) → v.kind ≡ lanes_kind f → packing r f v ≡ word (normal_form f (lane (packing r f v) 0))
