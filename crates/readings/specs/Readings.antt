-- The readings by their numbers, "0 the crate's, 1 the text's". Definitions only.
use Rattle.std.specs.Prelude.{◌≡◌, ℕ, Bool, true, false, cond, eqb, ltb, Result, MatchResult}
use Rattle.readings.specs.declared.Reading.{Reading}
use Rattle.readings.specs.declared.Reading.TheVariants.{Crate, Text}
use Rattle.readings.specs.declared.NoReading.{NoReading}

abbrev pub is_reading : ℕ → Bool
is_reading n = ltb n 2

-- of a number that is none nothing is asked
abbrev pub reading_at : ℕ → Reading
reading_at n = cond (eqb n 1) Text Crate

-- r is the reading of this number where it has one, and otherwise the number
abbrev pub Names : ℕ → Result Reading NoReading → Type 0
Names n r = MatchResult r (λ x. (is_reading n ≡ true) × (x ≡ reading_at n)) (λ e. (is_reading n ≡ false) × (e.0 ≡ n))
