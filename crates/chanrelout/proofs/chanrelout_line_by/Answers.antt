-- No answer's length and no fault's place reach 2^32; of a number that is no choice nothing is written. Assumes nothing.
use mathlib.Core.Path.{refl, sym, ap, ◌∙◌}
use native.Mathlib.Omega.{arith}
use lib.ListN.{length}
use Rattle.buffers.proofs.Puts.{put_nil}
use Rattle.answers.specs.declared.LineAnswer.{LineAnswer}
use Rattle.answers.proofs.Written.{spelled_most}
use Rattle.lines.specs.Line.{line_of, written_in, line_answer}
use Rattle.lines.proofs.Written.{place_most}
use Rattle.numbers.specs.Number.{line_number}
use Rattle.chanrelout.proofs.chanrelout_line_by.Goals as goal

pub line_number-requires : goal.line_number-requires
unfolding line_answer written_in
line_number-requires c =
    let a = c.args in
    let r = c.in-Some.reading in
    let e = c.fold_line_in-a.ensures.0 in
    omega (arith, spelled_most (length a.out.now) (line_of r a.line.now), place_most r a.line.now, ap (λ (x : LineAnswer). x.len) e, ap (λ (x : LineAnswer). x.place) e)

pub returns-in-Some : goal.returns-in-Some
returns-in-Some c =
    let a = c.fold_line_in-a.ensures in
    rw (c.in-Some.ensures.0, sym c.in-Some.ensures.1) (c.line_number.ensures ∙ ap line_number a.0, a.1)

pub returns-in-None : goal.returns-in-None
returns-in-None c = rw c.in-None.ensures (refl, sym (put_nil _ _))
