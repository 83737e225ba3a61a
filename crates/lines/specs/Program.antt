-- What the program tells of a line whose call is refused by 3. No statement of what a line gives rests on this. Definitions only.
use Rattle.std.specs.Prelude.{ℕ, List}
use Rattle.answers.specs.declared.LineAnswer.{LineAnswer}
use Rattle.lines.specs.Line.{fault_of}

abbrev pub misspelled_line : List ℕ → LineAnswer
misspelled_line line = record { refusal = (fault_of line).refusal; len = 0; place = (fault_of line).place }
