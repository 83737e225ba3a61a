-- No answer's length and no fault's place reach 2^32. Assumes nothing.
use mathlib.Core.Path.{ap}
use native.Mathlib.Omega.{arith}
use lib.ListN.{length}
use Rattle.readings.specs.declared.Reading.TheVariants as In
use Rattle.answers.specs.declared.LineAnswer.{LineAnswer}
use Rattle.answers.proofs.Written.{spelled_most}
use Rattle.lines.specs.Line.{line_of, written_in, line_answer}
use Rattle.lines.proofs.Written.{place_most}
use Rattle.chanrelout.proofs.chanrelout_line.Goals as goal

pub line_number-requires : goal.line_number-requires
unfolding line_answer written_in
line_number-requires c =
    let a = c.args in
    let e = c.fold_line-a.ensures.0 in
    omega (arith, spelled_most (length a.out.now) (line_of In.Crate a.line.now), place_most In.Crate a.line.now, ap (λ (x : LineAnswer). x.len) e, ap (λ (x : LineAnswer). x.place) e)
