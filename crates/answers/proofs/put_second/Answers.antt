-- Without a second value nothing is written; else the tab and the value, one after the other. Assumes nothing.
use mathlib.Core.List.{[], ◌∷◌}
use mathlib.Core.Path.{sym, ◌∙◌}
use native.Mathlib.Omega.{arith}
use Rattle.buffers.proofs.Puts.{made, both_made, room_left, put_nil}
use Rattle.words.specs.Words.{value_at}
use Rattle.spelling.specs.Write.{text_of}
use Rattle.answers.proofs.Written.{second_none, second_some}
use Rattle.answers.proofs.put_second.Goals as goal

pub returns-then-place_at-eq0 : goal.returns-then-place_at-eq0
returns-then-place_at-eq0 c =
    let v = value_at c.args.a.now 17 in
    rw (second_none v (sym c.place_at.ensures.0 ∙ c.if-place_at-eq0.true)) (omega arith, sym (put_nil _ _))

pub returns : goal.returns
returns c =
    let a = c.args in
    let v = value_at a.a.now 17 in
    let e = second_some v (λ z. c.if-place_at-eq0.false (c.place_at.ensures.0 ∙ z)) in
    let room = rw e at c.requires in
    let first = made a.out.now a.at (9 ∷ []) (omega (arith, room)) c.put_bytes-next.ensures in
    rw e
    (both_made a.out.now a.at (9 ∷ []) (text_of v) room first
    (made _ _ (text_of v) (room_left a.out.now a.at (9 ∷ []) (text_of v) room first) c.put_value.ensures))
