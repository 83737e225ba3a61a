-- What the turns of a program's loop do to what it reads from and writes to, where the bytes of those are known.
use Rattle.std.specs.Prelude.{ℕ, List, Option, true, ◌≡◌, take}
use Rattle.std.specs.Io.KnownBytes.{Consumes, Appends, IsAtEnd}
use Rattle.readings.specs.declared.Reading.{Reading}
use Rattle.stream.specs.Printed.{printed}
use Rattle.stream.specs.Stream.{start_of, step_lines, step_of, buffer_of}
use Rattle.inputs.specs.Turns.{Turns, Pumped, all_read, all_text}
use Rattle.stream.specs.declared.Held.{Held}

-- All that the turns read is gone from `unread`, and all their text stands behind `written`. When all is done, the input is at its end,
-- and that text is what is printed for all that was read.
pub record Piped (R : Reading) (b next : List ℕ) (unread unread' written written' : Option (List ℕ)) : Type 0 where
  pub pumped : Pumped R b next
  pub reads : Consumes unread unread' (all_read pumped.turns)
  pub writes : Appends written written' (all_text pumped.turns)
  pub ends : pumped.held.done ≡ true → IsAtEnd unread'
  pub prints : pumped.held.done ≡ true → all_text pumped.turns ≡ printed R (all_read pumped.turns)

-- Turns up to a read or a write that failed: what their steps held in the next one still stands in the buffer, and no more was read than
-- what the turns did.
pub record Stopped (R : Reading) (b next : List ℕ) (unread unread' : Option (List ℕ)) : Type 0 where
  pub count : ℕ
  pub mid : List ℕ
  pub held : Held
  pub turns : Turns R step_lines b start_of count mid held
  pub stays : take (step_of R step_lines mid held).have next ≡ take (step_of R step_lines mid held).have (buffer_of R step_lines mid held)
  pub reads : Consumes unread unread' (all_read turns)
