-- What `room` answers is whether the text fits; it is written, or nothing is done. Assumes nothing.
use mathlib.Core.Path.{sym, ◌∙◌}
use borrow.Author.Tests.{leb-true}
use Rattle.buffers.proofs.Puts.{written, not_written}
use Rattle.words.specs.Words.{value_at}
use Rattle.spelling.specs.Write.{text_of}
use Rattle.writing.proofs.ValueTexts.{length_by_place}
use Rattle.writing.proofs.put_value.Goals as goal

pub put_text-requires : goal.put_text-requires
put_text-requires c =
    let n = c.text_len.ensures.0 ∙ sym (length_by_place c.args.w.now c.args.from c.place_at-p.ensures.0) in (
      c.place_at-p.ensures.0,
      c.place_at-p.ensures.1,
      c.requires,
      leb-true _ _ (rw n at (sym c.room.ensures ∙ c.if-room.true)),
    )

pub returns-then-room : goal.returns-then-room
returns-then-room c =
    let n = c.text_len.ensures.0 ∙ sym (length_by_place c.args.w.now c.args.from c.place_at-p.ensures.0) in
    written c.args.out.now c.args.at (text_of (value_at c.args.w.now c.args.from)) (rw n at (sym c.room.ensures ∙ c.if-room.true)) c.put_text.ensures.0 c.put_text.ensures.1

pub returns-else-room : goal.returns-else-room
returns-else-room c =
    let n = c.text_len.ensures.0 ∙ sym (length_by_place c.args.w.now c.args.from c.place_at-p.ensures.0) in
    not_written c.args.out.now c.args.at (text_of (value_at c.args.w.now c.args.from)) (rw n at (sym c.room.ensures ∙ c.if-room.false))
