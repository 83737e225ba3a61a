-- Sizes of floats as whole numbers, for the contracts of this crate's own functions. No definition of what a lane is rests on them.
use Rattle.std.specs.Prelude.{ℕ, ◌+◌, ◌-◌, ◌*◌, ◌/◌, min, pos, false, Float}
use Rattle.std.specs.Float.{nan, inf, fin}
use Rattle.std.specs.Float.Ieee.{up, down}

abbrev pub nought : Float
nought = fin false 0 (pos 0)

-- the size of a float rounded down, and rounded up, to a whole number of at most 65536
unfoldable pub size_down : Float → ℕ
size_down nan = 0
size_down (inf s) = 65536
size_down (fin s m e) = min (m * up e / down e) 65536

unfoldable pub size_up : Float → ℕ
size_up nan = 0
size_up (inf s) = 65536
size_up (fin s m e) = min ((m * up e + (down e - 1)) / down e) 65536
