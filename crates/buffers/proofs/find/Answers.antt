-- Both loops keep that no b stands before i; the first passes eight places at once. Assumes nothing.
use native.Mathlib.Omega.{arith}
use borrow.Author.Rules.{rules}
use borrow.Author.Tests.{leb-true, leb-false}
use mathlib.Core.Path.{sym, ◌∙◌}
use lib.ListN.{drop}
use Rattle.buffers.specs.Text.{place_of}
use Rattle.buffers.proofs.FirstPlace.{place_le, place_drop, place_hit, place_miss}
use Rattle.buffers.proofs.find.Goals as goal

pub loop-i-preserved : goal.loop-i-preserved
loop-i-preserved c =
    let a = c.args in
    let i = c.loop-i.i in
    let e = leb-true 8 (place_of a.b (drop i a.s.now)) (sym c.none_of_eight.ensures ∙ c.if-none_of_eight.true) in
    (search rules, omega (arith, place_drop a.b a.s.now i (search rules)))

pub first_of_eight-requires : goal.first_of_eight-requires
first_of_eight-requires c =
    let a = c.args in
    let h = leb-false 8 (place_of a.b (drop c.loop-i.i a.s.now)) (sym c.none_of_eight.ensures ∙ c.if-none_of_eight.false) in
    search rules

pub returns-else-none_of_eight : goal.returns-else-none_of_eight
returns-else-none_of_eight c =
    let a = c.args in
    let p = place_drop a.b a.s.now c.loop-i.i (search rules) in
    let h = place_le a.b a.s.now in
    search rules

pub returns-then-s-i : goal.returns-then-s-i
returns-then-s-i c =
    let a = c.args in
    let h = place_hit a.b a.s.now c.loop-i-2.i (search rules) c.if-s-i.true in
    search rules

pub loop-i-2-preserved : goal.loop-i-2-preserved
loop-i-2-preserved c =
    let a = c.args in
    let h = place_miss a.b a.s.now c.loop-i-2.i (search rules) (search rules) c.if-s-i.false in
    search rules

pub returns : goal.returns
returns c =
    let a = c.args in
    let h = place_le a.b a.s.now in
    search rules
