-- How the program names a format: by its two widths. No statement of what a call gives rests on this. Definitions only.
use Rattle.std.specs.Prelude.{ℕ}
use Rattle.half.specs.Format.{Format}

abbrev pub format : ℕ → ℕ → Format
format e p = record { exponent = e; fraction = p }
