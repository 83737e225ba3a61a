-- The program subtracts the number's floor, which is what fract of an f32 is. Assumes nothing.
use mathlib.Core.Path.{◌∙◌}
use Rattle.rounding.proofs.Subtraction.{subtracted_is}
use Rattle.rounding.proofs.fract_f32.Goals as goal

pub returns : goal.returns
returns c = c.bits_of.ensures ∙ rw (c.f32_of-2.ensures, c.f32_of.ensures, c.whole_in-floor.ensures) (subtracted_is c.args.x)
