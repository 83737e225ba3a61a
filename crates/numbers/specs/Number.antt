-- An answer as one number, for a program that links the library. Definitions only.
use Rattle.std.specs.Prelude.{ℕ, ◌+◌, ◌*◌, ◌^◌, Option, Some, None}
use Rattle.losses.specs.declared.Converted.{Converted}
use Rattle.losses.specs.Losses.{loss_number}
use Rattle.answers.specs.declared.LineAnswer.{LineAnswer}
use Rattle.reading.specs.declared.ReadInto.{ReadInto}
use Rattle.writing.specs.declared.Written.{Written}
use Rattle.sorting.specs.declared.Sorted.{Sorted}
use Rattle.diffs.specs.declared.Compared.{Compared}
use Rattle.diffs.specs.declared.Side.{Side}
use Rattle.diffs.specs.declared.Side.TheVariants.{Left, Right}
use Rattle.diffs.specs.declared.Place.{Place}

-- of a conversion, its half and what was lost
abbrev pub told_number : Converted → ℕ
told_number c = loss_number c.loss * 2 ^ 16 + c.half

-- a refusal and how much there is of an answer, or where its fault is, in one number
abbrev pub refusal_or_count : ℕ → ℕ → ℕ
refusal_or_count refusal n = refusal * 2 ^ 32 + n

-- of a line, the length of its answer, or the place of its fault: one of the two is 0
abbrev pub line_number : LineAnswer → ℕ
line_number a = refusal_or_count a.refusal (a.len + a.place)

-- of a value's text, the place of its fault
abbrev pub read_number : ReadInto → ℕ
read_number a = refusal_or_count a.refusal a.place

-- of a value, the length of its text
abbrev pub written_number : Written → ℕ
written_number a = refusal_or_count a.refusal a.len

-- of a listing, how many lines it has
abbrev pub sort_number : Sorted → ℕ
sort_number s = refusal_or_count s.refusal s.count

-- of two listings, how many lines the longer one has
abbrev pub diff_number : Compared → ℕ
diff_number c = refusal_or_count c.refusal c.count

-- which listing, where in it, and how many bytes: a listing has at most 32,768
abbrev pub side_number : Side → ℕ
side_number Left = 1
side_number Right = 2

-- 0 where there is none
abbrev pub place_number : Option Place → ℕ
place_number None = 0
place_number (Some p) = side_number p.side * 2 ^ 32 + p.at * 2 ^ 16 + p.len
