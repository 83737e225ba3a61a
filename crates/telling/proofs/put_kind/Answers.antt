-- A line is its number, the tab, the word and the newline, each written where the one before ended. Assumes nothing.
use mathlib.Core.Path.{ap, sym, ◌∙◌}
use native.Mathlib.Omega.{arith}
use lib.ListN.{length}
use Rattle.buffers.specs.Memory.{put}
use Rattle.buffers.proofs.Puts.{put_nil}
use Rattle.telling.proofs.KindTexts.{untold, number_room, tab_room, word_room, newline_room, line_made}
use Rattle.telling.proofs.put_kind.Goals as goal

pub returns-then-kind : goal.returns-then-kind
returns-then-kind c =
    let a = c.args in
    let e = untold a.n a.kind c.if-kind.true in
    (omega (arith, ap length e), sym (ap (put a.out.now a.at) e ∙ put_nil a.out.now a.at))

pub put_digits-a-requires : goal.put_digits-a-requires
put_digits-a-requires c =
    let a = c.args in
    number_room a.n a.kind c.if-kind.false a.out.now a.at c.places_of.ensures c.requires

pub put_byte-b-requires : goal.put_byte-b-requires
put_byte-b-requires c =
    let a = c.args in
    tab_room a.n a.kind c.if-kind.false a.out.now a.at c.places_of.ensures c.requires c.put_digits-a.ensures

pub put_word-c-requires : goal.put_word-c-requires
put_word-c-requires c =
    let a = c.args in
    word_room a.n a.kind c.if-kind.false a.out.now a.at c.places_of.ensures c.requires c.put_digits-a.ensures c.put_byte-b.ensures

pub put_byte-requires : goal.put_byte-requires
put_byte-requires c =
    let a = c.args in
    newline_room a.n a.kind c.if-kind.false a.out.now a.at c.places_of.ensures c.requires c.put_digits-a.ensures c.put_byte-b.ensures c.put_word-c.ensures

pub returns : goal.returns
returns c =
    let a = c.args in
    line_made a.n a.kind c.if-kind.false a.out.now a.at c.places_of.ensures c.requires c.put_digits-a.ensures c.put_byte-b.ensures c.put_word-c.ensures c.put_byte.ensures
