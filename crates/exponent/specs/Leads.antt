-- How the program takes a float apart. No statement of what a call gives rests on this. Definitions only.
use Rattle.std.specs.Prelude.{◌≡◌, ℕ, suc, ◌+◌, ◌*◌, ◌/◌, ◌^◌, ◌<◌, ◌≤◌}
use Rattle.half.specs.Format.{units}
use Rattle.half.specs.Program.{format}

-- q has p + 1 digits, and the size of the magnitude m is q with its point moved so that s digits stand in front of it, in each format of p digits below the leading one
pub record Leads (p m q s : ℕ) : Type 0 where
  pub least : 2 ^ p ≤ q
  pub most : q < 2 ^ suc p
  pub count : s ≤ m / 2 ^ p + p
  pub same : (e : ℕ) → units (format e p) m * 2 ^ suc p ≡ q * 2 ^ s
