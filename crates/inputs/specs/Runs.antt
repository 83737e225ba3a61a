-- What a program may do with an input in a reading, and the loop of one over its buffer.
use Rattle.std.specs.Prelude.{ℕ, ◌+◌, List, [], ◌++◌, Bool, true, false, ◌≡◌, length, drop, eqb}
use Rattle.readings.specs.declared.Reading.{Reading}
use Rattle.cutting.specs.Cutting.{held_of}
use Rattle.stream.specs.Stream.{part_text, part_size, part_skip, step_of, buffer_of, text_of}
use Rattle.stream.specs.declared.Held.{Held}

-- What a program may do from where `held` is read and not yet answered, `rest` is still to be read and `out` still to be written:
-- read some bytes, write the answers of up to n lines, or end. `last` only where nothing is to be read.
pub data Run (R : Reading) : Bool → List ℕ → List ℕ → List ℕ → Type 0 where
  reads : {skip : Bool} (held more rest : List ℕ) {out : List ℕ} → Run R skip (held ++ more) rest out → Run R skip held (more ++ rest) out
  writes : (n : ℕ) (skip last : Bool) (held rest : List ℕ) {out : List ℕ} → (last ≡ true → rest ≡ [])
      → Run R (part_skip n skip last held) (drop (part_size n skip last held) held) rest out → Run R skip held rest (part_text R n skip last held ++ out)
  ends : {skip : Bool} → Run R skip [] [] []

-- n more bytes are read behind what is held; none: the input has ended
abbrev pub read_of : Held → ℕ → Held
read_of h n = record { at = h.at; have = h.have + n; used = 0; skip = h.skip; last = eqb n 0; reads = false; done = false }

-- A program's loop over its buffer b, from where `rest` is still to be read: a step, its text written, and then the next step, or a read
-- that leaves what is held as it is and puts some bytes behind it, none only at the end of the input, or the end.
pub data Loop (R : Reading) (n : ℕ) : List ℕ → Held → List ℕ → List ℕ → Type 0 where
  steps : (b : List ℕ) (h : Held) {rest out : List ℕ} → Loop R n (buffer_of R n b h) (step_of R n b h) rest out → Loop R n b h rest (text_of R n b h ++ out)
  fills : (b : List ℕ) (h : Held) (next more rest : List ℕ) {out : List ℕ} → (step_of R n b h).reads ≡ true → (length more ≡ 0 → rest ≡ [])
      → held_of next (step_of R n b h).at ((step_of R n b h).have + length more) ≡ held_of (buffer_of R n b h) (step_of R n b h).at (step_of R n b h).have ++ more
      → Loop R n next (read_of (step_of R n b h) (length more)) rest out → Loop R n b h (more ++ rest) (text_of R n b h ++ out)
  stops : (b : List ℕ) (h : Held) → (step_of R n b h).done ≡ true → Loop R n b h [] (text_of R n b h)
