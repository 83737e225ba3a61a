-- The program makes what is left of the half's f32 a half, which is what fract of a half is. Assumes nothing.
use mathlib.Core.Path.{◌∙◌}
use Rattle.rounding.proofs.Subtraction.{half_is}
use Rattle.rounding.proofs.fract_f16.Goals as goal

pub returns : goal.returns
returns c = c.f32_to_f16.ensures ∙ rw (c.fract_f32.ensures, c.single_of.ensures) (half_is c.args.x)
