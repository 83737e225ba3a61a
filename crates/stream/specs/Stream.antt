-- The input in pieces: what is answered of the bytes at hand in a reading, and what is kept for later.
use Rattle.std.specs.Prelude.{ℕ, zero, suc, ◌+◌, ◌/◌, min, List, [], ◌++◌, Bool, false, not, cond, length, take, drop, eqb}
use Rattle.readings.specs.declared.Reading.{Reading}
use Rattle.buffers.specs.Memory.{put}
use Rattle.cutting.specs.Lines.{newline_at}
use Rattle.cutting.specs.Cutting.{due, piece_size, piece_skip, held_of}
use Rattle.stream.specs.Printed.{answer_line}
use Rattle.stream.specs.declared.Part.{Part}
use Rattle.stream.specs.declared.Held.{Held}

-- no answer is longer: two values of at most 155 bytes, and a tab
abbrev pub most_text : ℕ
most_text = 311

-- and with its newline
abbrev pub line_room : ℕ
line_room = 312

-- how many answers have room in lent memory, each as long as any may be
abbrev pub lines_in : List ℕ → ℕ
lines_in o = length o / line_room

-- how long the memory is that a step is lent, for the input and for the answers
abbrev pub space : ℕ
space = 65536

-- and how many lines a step answers at most
abbrev pub step_lines : ℕ
step_lines = space / line_room

-- the text of one line
unfoldable pub piece_text : Reading → Bool → Bool → List ℕ → List ℕ
piece_text r skip last s = cond (due skip last s) (answer_line r (take (newline_at s) s)) []

-- and how many bytes are done with, where the text stands from `at` on
unfoldable pub piece_of : Reading → ℕ → Bool → Bool → List ℕ → Part
piece_of r at skip last s = record { size = piece_size skip last s; used = at + length (piece_text r skip last s); skip = piece_skip skip s }

-- up to n lines
unfoldable pub part_text : Reading → ℕ → Bool → Bool → List ℕ → List ℕ
part_text r zero skip last s = []
part_text r (suc n) skip last s = piece_text r skip last s ++ part_text r n (piece_skip skip s) last (drop (piece_size skip last s) s)

unfoldable pub part_size : ℕ → Bool → Bool → List ℕ → ℕ
part_size zero skip last s = 0
part_size (suc n) skip last s = piece_size skip last s + part_size n (piece_skip skip s) last (drop (piece_size skip last s) s)

unfoldable pub part_skip : ℕ → Bool → Bool → List ℕ → Bool
part_skip zero skip last s = skip
part_skip (suc n) skip last s = part_skip n (piece_skip skip s) last (drop (piece_size skip last s) s)

unfoldable pub part_of : Reading → ℕ → Bool → Bool → List ℕ → Part
part_of r n skip last s = record { size = part_size n skip last s; used = length (part_text r n skip last s); skip = part_skip n skip last s }

abbrev pub start_of : Held
start_of = record { at = 0; have = 0; used = 0; skip = false; last = false; reads = false; done = false }

-- the part of what is held that is done with in one step
abbrev pub step_part : Reading → ℕ → List ℕ → Held → Part
step_part r n b h = part_of r n h.skip h.last (held_of b h.at h.have)

unfoldable pub text_of : Reading → ℕ → List ℕ → Held → List ℕ
text_of r n b h = part_text r n h.skip h.last (held_of b h.at h.have)

unfoldable pub step_of : Reading → ℕ → List ℕ → Held → Held
step_of r n b h =
    cond (eqb (step_part r n b h).size 0)
    (record { at = 0; have = length (held_of b h.at h.have); used = (step_part r n b h).used; skip = (step_part r n b h).skip; last = h.last; reads = not h.last; done = h.last })
    (record { at = h.at + (step_part r n b h).size; have = min h.have (length b); used = (step_part r n b h).used; skip = (step_part r n b h).skip; last = h.last; reads = false; done = false })

unfoldable pub buffer_of : Reading → ℕ → List ℕ → Held → List ℕ
buffer_of r n b h = cond (eqb (step_part r n b h).size 0) (put b 0 (held_of b h.at h.have)) b
