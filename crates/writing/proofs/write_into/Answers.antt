-- By the three cases of `Told`. Assumes nothing.
use mathlib.Core.Path.{sym, ◌∙◌}
use borrow.Author.Tests.{not-true, not-false}
use Rattle.words.specs.Words.{value_at}
use Rattle.writing.proofs.Told.{ill_formed, too_short, written}
use Rattle.writing.proofs.ValueTexts.{length_by_place}
use Rattle.writing.proofs.write_into.Goals as goal

pub returns-then-not-formed_at : goal.returns-then-not-formed_at
returns-then-not-formed_at c =
    ill_formed c.args.out.now (value_at c.args.value.now 0) (sym c.formed_at.ensures ∙ c.if-not-formed_at.true)

pub returns-then-out-text_len : goal.returns-then-out-text_len
returns-then-out-text_len c =
    let n = c.text_len.ensures.0 ∙ sym (length_by_place c.args.value.now 0 c.place_at.ensures.0) in
    too_short c.args.out.now (value_at c.args.value.now 0) (sym c.formed_at.ensures ∙ c.if-not-formed_at.false) (rw n at c.if-out-text_len.true)

pub returns : goal.returns
returns c =
    let n = c.text_len.ensures.0 ∙ sym (length_by_place c.args.value.now 0 c.place_at.ensures.0) in
    written c.args.out.now (value_at c.args.value.now 0) (sym c.formed_at.ensures ∙ c.if-not-formed_at.false) (rw n at c.if-out-text_len.false) c.put_value-len.ensures
