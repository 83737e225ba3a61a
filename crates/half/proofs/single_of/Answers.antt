-- The half that is converted has the sign and the magnitude that the definition takes from x, and conversion looks at nothing else. Assumes nothing.
use mathlib.Core.Path.{◌≡◌, ◌∙◌}
use Prim.Native.Nat.{ℕ, ◌*◌, ◌<◌}
use native.Mathlib.Nat.{mod-lt}
use native.Mathlib.Omega.{arith}
use Rattle.half.specs.Format.{f16, top, magnitude, negative, signed}
use Rattle.half.specs.Convert.{converted, single_of}
use Rattle.half.proofs.Signs.{negative_signed, magnitude_signed, signed_below}
use Rattle.half.proofs.single_of.Goals as goal

module _ (x : ℕ) where
  abbrev half_of : ℕ
  half_of = signed f16 (negative f16 x) (magnitude f16 x)

  half_below : half_of < 2 * top f16
  half_below = signed_below f16 (negative f16 x) (magnitude f16 x) (mod-lt x (omega arith))

  same_single : single_of half_of ≡ single_of x
  unfolding converted
  same_single = rw (negative_signed f16 (negative f16 x) (magnitude f16 x) (mod-lt x (omega arith)), magnitude_signed f16 (negative f16 x) (magnitude f16 x) (mod-lt x (omega arith)))

pub overflow_add-choose : goal.overflow_add-choose
overflow_add-choose c = omega (arith, c.choose.ensures, half_below c.args.x)

pub overflow_cast-choose : goal.overflow_cast-choose
overflow_cast-choose c = omega (arith, c.choose.ensures, half_below c.args.x)

pub returns : goal.returns
returns c = c.f16_to_f32.ensures ∙ rw c.choose.ensures (same_single c.args.x)
