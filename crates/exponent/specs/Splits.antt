-- frexp as 01 states it of its two results: "magnitude in [0.5, 1) and i32 exponent, exact". What `fraction` and `exponent` are held to. Definitions only.
use Rattle.std.specs.Prelude.{◌≡◌, ℕ, ◌*◌, ◌^◌, ◌<◌, ◌≤◌, ℤ}
use Rattle.std.specs.Float.Ieee.{up, down}
use Rattle.half.specs.Format.{Format, magnitude, negative, lowest, units}

-- x is r times 2 ^ z, and r is at least 0.5 and below 1. In units of 2 ^ -lowest, 1 is 2 ^ lowest.
pub record Splits (f : Format) (x r : ℕ) (z : ℤ) : Type 0 where
  pub sign : negative f r ≡ negative f x
  pub least : 2 ^ lowest f ≤ 2 * units f (magnitude f r)
  pub most : units f (magnitude f r) < 2 ^ lowest f
  pub exact : units f (magnitude f x) * down z ≡ units f (magnitude f r) * up z
