-- The integer lanes of packed words, in a reading. The norm lanes are exact's `norm_code`, the half lanes half's. Definitions only.
use Rattle.std.specs.Prelude.{ℕ, ◌+◌, ◌-◌, ◌*◌, ◌%◌, ◌^◌, min, max, cond, ltb}
use Rattle.readings.specs.declared.Reading.{Reading}
use Rattle.readings.specs.declared.Reading.TheVariants as In

-- "pack4xI8 and pack4xU8 keep the low 8 bits of each lane. pack4xU8Clamp also keeps the low 8 bits."
abbrev pub low_byte : ℕ → ℕ
low_byte x = x % 2 ^ 8

-- a code of 8 bits taken as signed, its sign extended to 32 bits
abbrev pub extended : ℕ → ℕ
extended c = cond (ltb c 0x80) c (0xffff_ff00 + c)

-- a code as its lane
abbrev pub plain : ℕ → ℕ
plain c = c

-- lane i of pack4xI8Clamp, which "takes the low 8 bits as signed, extends the sign to 32 bits, shifts to the lane"
abbrev pub filling_from : ℕ → ℕ → ℕ
filling_from x i = extended (low_byte x) * 2 ^ (8 * i) % 2 ^ 32

-- ---- the text's reading

-- "There pack4xI8Clamp clamps to -128..127": a lane from 2 ^ 31 up is that much less 2 ^ 32
abbrev pub clamped_i8 : ℕ → ℕ
clamped_i8 x = low_byte (cond (ltb x (2 ^ 31)) (min x 127) (max x (2 ^ 32 - 128)))

-- "and pack4xU8Clamp to at most 255"
abbrev pub clamped_u8 : ℕ → ℕ
clamped_u8 x = min x 255

-- ---- what the reading chooses

-- a lane of pack4xU8Clamp
abbrev pub code_u8 : Reading → ℕ → ℕ
code_u8 In.Crate = low_byte
code_u8 In.Text = clamped_u8
