use Prim.Native.Nat.{ℕ, ◌-◌, ◌+◌}
use mathlib.Core.Path.{ap, ◌∙◌}
use mathlib.Core.List.{[], ◌∷◌}
use native.Mathlib.Omega.{arith}
use lib.ListN.{length}
use Rattle.buffers.specs.Memory.{put}
use Rattle.lines.specs.Line.{written_in}
use Rattle.printing.specs.Decimal.{refused_at}
use Rattle.stream.specs.Printed.{answer_text, answer_line}
use Rattle.buffers.proofs.Puts.{then}
use Rattle.stream.proofs.Answers.{text_of, written_of, fit_of, text_le, length_line}
use Rattle.stream.proofs.put_line.Goals as goal

pub overflow_add-at : goal.overflow_add-at
overflow_add-at c =
    let a = c.args in
    let room = length a.out.now - a.at in
    let w = c.line_at-a.ensures in
    let f = fit_of a.reading room a.line.now w.0 (omega (arith, c.requires)) in
    omega (arith, f, text_le a.reading a.line.now, c.requires)

pub put_refused-e-requires : goal.put_refused-e-requires
put_refused-e-requires c =
    let a = c.args in
    let room = length a.out.now - a.at in
    let w = c.line_at-a.ensures in
    let f = fit_of a.reading room a.line.now w.0 (omega (arith, c.requires)) in
    omega (arith, f, text_le a.reading a.line.now, c.requires)

pub put_byte-requires : goal.put_byte-requires
put_byte-requires c =
    let a = c.args in
    let room = length a.out.now - a.at in
    let w = c.line_at-a.ensures in
    let f = fit_of a.reading room a.line.now w.0 (omega (arith, c.requires)) in
    omega (arith, f, text_le a.reading a.line.now, c.requires, c.put_refused-e.ensures.0)

pub returns : goal.returns
unfolding answer_line
returns c =
    let a = c.args in
    let room = length a.out.now - a.at in
    let w = c.line_at-a.ensures in
    let f = fit_of a.reading room a.line.now w.0 (omega (arith, c.requires)) in
    let n = written_of a.reading room a.line.now w.0 (omega (arith, c.requires)) in
    let le = text_le a.reading a.line.now in
    let text = text_of a.reading room a.line.now w.0 (omega (arith, c.requires)) in
    let q = c.put_refused-e.ensures in
    let b = c.put_byte.ensures in
    let k = length_line a.reading a.line.now in (
      omega (arith, b.0, q.0),
      then a.out.now a.at (answer_text a.reading a.line.now) (10 ∷ []) (omega (arith, le, c.requires))
          (then a.out.now a.at (written_in a.reading room a.line.now) (let r = c.line_at-a.result in refused_at r.refusal r.place) (omega (arith, le, f, n, c.requires)) w.1 (ap (λ (i : ℕ). a.at + i) n) q.1
          ∙ ap (put a.out.now a.at) text)
          (q.0 ∙ omega (arith, f)) b.1,
    )
