-- 02, Q-10, of lanes: for every width from 1 to 16, signed or not, in both readings, and of halves.
-- How it goes. A code is n or minus n, where n is the lane's size, scaled, with a half, and rounded down to a whole number. In the text's reading that is one fraction, which rises with the lane. In the crate's
-- each f32 step rounds, and rounding keeps the order; a lane out of range packs as the range's end. Both steps round a number below 65537, so that each stays between two neighbouring multiples of 1/128, which
-- are values of f32 themselves: together they are off by 1/64 at most. Assumes nothing.
use Prim.Native.Nat.{ℕ, ◌≤◌}
use mathlib.Core.Bool.{Bool}
use lib.Dec.{le→leb}
use Rattle.readings.specs.declared.Reading.{Reading}
use Rattle.readings.specs.declared.Reading.TheVariants as In
use Rattle.half.specs.Format.{f16, rank}
use Rattle.half.specs.Convert.{half_of}
use Rattle.half.proofs.Half.{half_order}
use Rattle.brighter.specs.Brighter.{norm, half, NeverDarker, Close}
use Rattle.brighter.proofs.Text.{text_never_darker, text_close}
use Rattle.brighter.proofs.Crate.{crate_never_darker, crate_close}

pub norm_never_darker : (r : Reading) (g : Bool) (w : ℕ) → 1 ≤ w → w ≤ 16 → NeverDarker r (norm g w)
norm_never_darker In.Crate g w lo hi = crate_never_darker g w lo hi
norm_never_darker In.Text g w lo hi = text_never_darker g w lo

pub half_never_darker : (r : Reading) → NeverDarker r half
half_never_darker r x y o = le→leb (rank f16 (half_of x)) (rank f16 (half_of y)) (half_order x y o.number o.other_number o.below)

pub close : (r : Reading) (g : Bool) (w : ℕ) → 1 ≤ w → w ≤ 16 → Close r g w
close In.Crate g w lo hi = crate_close g w lo hi
close In.Text g w lo hi = text_close g w lo
