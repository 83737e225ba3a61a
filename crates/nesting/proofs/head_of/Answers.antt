-- Each head by the tests that lead to it. Assumes nothing.
use borrow.Author.Rules.{rules}
use Rattle.nesting.proofs.Heads.{head_bad, head_call, head_spelling}
use Rattle.nesting.proofs.head_of.Goals as goal

pub returns-then-at-e : goal.returns-then-at-e
returns-then-at-e c =
    let a = c.args in
    head_bad a.first a.s.now a.at c.word_end-e.result c.word_end-e.ensures.0 (search rules)

pub returns-then-first-letters_and_digits : goal.returns-then-first-letters_and_digits
returns-then-first-letters_and_digits c =
    let w = c.word_end-e in
    let a = c.args in
    head_call a.first a.s.now a.at w.result w.ensures.0 _ c.byte_at.result (search rules) c.letters_and_digits.ensures c.byte_at.ensures _ c.if-first-letters_and_digits.true c.same.ensures

pub returns : goal.returns
returns c =
    let w = c.word_end-e in
    let a = c.args in
    head_spelling a.first a.s.now a.at w.result w.ensures.0 _ c.byte_at.result (search rules) c.letters_and_digits.ensures c.byte_at.ensures c.if-first-letters_and_digits.false
