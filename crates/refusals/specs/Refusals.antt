-- The number of each refusal: 01, "What a refused call gives", of a call. Definitions only.
use Rattle.std.specs.Prelude.{ℕ, Result, Ok, Err}
use Rattle.refusals.specs.declared.Refusal.{Refusal}
use Rattle.refusals.specs.declared.Refusal.TheVariants.{NotInTable, Count, IllFormed, NotTaken, NotTogether, ByteSizes, NoRoom}

abbrev pub number : Refusal → ℕ
number NotInTable = 1
number Count = 2
number IllFormed = 3
number NotTaken = 4
number NotTogether = 5
number ByteSizes = 6
number NoRoom = 8

-- 0 where nothing is refused
abbrev pub told : {A : Type 0} → Result A Refusal → ℕ
told (Ok a) = 0
told (Err r) = number r
