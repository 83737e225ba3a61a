-- Rounding to nearest, ties to even, as IEEE 754 states it of the result: what `magnitude_of` is held to. Definitions only.
use Rattle.std.specs.Prelude.{ℕ, ◌+◌, ◌-◌, ◌*◌, ◌%◌, ◌≤◌, ◌<◌, ◌≡◌, ◌⊎◌}
use Rattle.half.specs.Format.{Format, infinity, units}

abbrev pub apart : ℕ → ℕ → ℕ
apart x y = (x - y) + (y - x)

-- Of all finite magnitudes m is nearest to a / c units, and where another is as near, m is the even one.
pub record Nearest (f : Format) (a c m : ℕ) : Type 0 where
  pub finite : m < infinity f
  pub near : (q : ℕ) → q < infinity f → apart a (units f m * c) ≤ apart a (units f q * c)
  pub even : (q : ℕ) → q < infinity f → apart a (units f q * c) ≡ apart a (units f m * c) → (q ≡ m) ⊎ (m % 2 ≡ 0)

-- Twice the number from which on the result is the infinity: halfway between the greatest finite number and the one that would come next.
abbrev pub overflow : Format → ℕ
overflow f = units f (infinity f - 1) + units f (infinity f)

pub record Rounds (f : Format) (a c m : ℕ) : Type 0 where
  pub below : 2 * a < overflow f * c → Nearest f a c m
  pub above : overflow f * c ≤ 2 * a → m ≡ infinity f
