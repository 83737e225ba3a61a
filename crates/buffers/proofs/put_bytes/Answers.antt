-- What `room` answers is whether the bytes fit; they are copied, or nothing is done. Assumes nothing.
use lib.ListN.{length}
use Prim.Native.Nat.{◌+◌}
use mathlib.Core.Path.{sym, ◌∙◌}
use borrow.Author.Tests.{leb-true}
use Rattle.buffers.proofs.Puts.{written, not_written}
use Rattle.buffers.proofs.put_bytes.Goals as goal

pub copy-requires : goal.copy-requires
copy-requires c =
    let a = c.args in
    leb-true (a.at + length a.s.now) (length a.out.now) (sym c.room.ensures ∙ c.if-room.true)

pub returns-then-room : goal.returns-then-room
returns-then-room c =
    let a = c.args in
    written a.out.now a.at a.s.now (sym c.room.ensures ∙ c.if-room.true)
    c.copy.ensures.0 c.copy.ensures.1

pub returns-else-room : goal.returns-else-room
returns-else-room c =
    let a = c.args in
    not_written a.out.now a.at a.s.now (sym c.room.ensures ∙ c.if-room.false)
