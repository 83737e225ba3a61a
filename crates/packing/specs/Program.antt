-- What the program's codings of a lane stand for, and pack4xI8Clamp's word of four lanes. No statement of what a call gives rests on this. Definitions only.
use Rattle.std.specs.Prelude.{ℕ, true, false, List, get_or}
use Rattle.std.specs.Int.Bits.{bit_or}
use Rattle.half.specs.Convert.{half_of, single_of}
use Rattle.losses.specs.declared.Loss.{Loss}
use Rattle.losses.specs.declared.Loss.TheVariants.{Exact}
use Rattle.losses.specs.Losses.{loss_number, loss_of}
use Rattle.norm.specs.Norm.{unpacked_norm}
use Rattle.exact.specs.Exact.{norm_code}
use Rattle.readings.specs.declared.Reading.{Reading}
use Rattle.readings.specs.declared.Reading.TheVariants as In
use Rattle.values.specs.Program.{four}
use Rattle.numeric.specs.Parts.{joined}
use Rattle.packing.specs.declared.Coding8.{Coding8}
use Rattle.packing.specs.declared.Coding8.TheVariants as Of8
use Rattle.packing.specs.declared.Coding16.{Coding16}
use Rattle.packing.specs.declared.Coding16.TheVariants as Of16
use Rattle.packing.specs.declared.Coded16.{Coded16}
use Rattle.packing.specs.Lanes.{low_byte, extended, plain, filling_from, clamped_i8, code_u8}

abbrev pub code8_of : Reading → Coding8 → ℕ → ℕ
code8_of r Of8.Snorm = norm_code r true 8
code8_of r Of8.Unorm = norm_code r false 8
code8_of r Of8.Signed = low_byte
code8_of r Of8.Unsigned = low_byte
code8_of r Of8.ClampedSigned = clamped_i8
code8_of r Of8.ClampedUnsigned = code_u8 r

abbrev pub lane8_of : Coding8 → ℕ → ℕ
lane8_of Of8.Snorm = unpacked_norm true 8
lane8_of Of8.Unorm = unpacked_norm false 8
lane8_of Of8.Signed = extended
lane8_of Of8.Unsigned = plain
lane8_of Of8.ClampedSigned = extended
lane8_of Of8.ClampedUnsigned = plain

abbrev pub code16_of : Reading → Coding16 → ℕ → ℕ
code16_of r Of16.Snorm = norm_code r true 16
code16_of r Of16.Unorm = norm_code r false 16
code16_of r Of16.Float = half_of

-- what a lane loses that becomes such a code, and the loss's number
abbrev pub lost16_of : Coding16 → ℕ → Loss
lost16_of Of16.Snorm x = Exact
lost16_of Of16.Unorm x = Exact
lost16_of Of16.Float x = loss_of x

abbrev pub loss16_of : Coding16 → ℕ → ℕ
loss16_of Of16.Snorm x = 0
loss16_of Of16.Unorm x = 0
loss16_of Of16.Float x = loss_number (loss_of x)

abbrev pub coded : ℕ → Loss → Coded16
coded code loss = record { code = code; loss = loss }

abbrev pub lane16_of : Coding16 → ℕ → ℕ
lane16_of Of16.Snorm = unpacked_norm true 16
lane16_of Of16.Unorm = unpacked_norm false 16
lane16_of Of16.Float = single_of

abbrev pub fill_four : List ℕ → ℕ
fill_four x = bit_or (bit_or (bit_or (filling_from (get_or x 0 0) 0) (filling_from (get_or x 1 0) 1)) (filling_from (get_or x 2 0) 2)) (filling_from (get_or x 3 0) 3)

abbrev pub clamp_four : Reading → List ℕ → ℕ
clamp_four In.Crate x = fill_four x
clamp_four In.Text x = joined 8 (four clamped_i8 x)
