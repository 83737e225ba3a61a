-- A step is what is stated for the lines of what is held: `fold_held` answers them, and where there are none `carry` makes room. The memory
-- lent for the answers has room for `step_lines` of them. Assumes nothing.
use Prim.Native.Nat.{ℕ, ◌/◌, min}
use mathlib.Core.Path.{◌≡◌, ap, sym, ◌∙◌}
use native.Mathlib.Nat.{min-le_right}
use native.Mathlib.Omega.{arith}
use lib.ListN.{length}
use borrow.Author.Rules.{rules}
use Rattle.stream.specs.Stream.{text_of, line_room, lines_in, space, step_lines}
use Rattle.cutting.proofs.Buffer.{length_held}
use Rattle.stream.proofs.Steps.{step_idle, step_busy, buffer_idle, buffer_busy}
use Rattle.stream.proofs.step.Goals as goal
use Rattle.stream.proofs.step.Goals.{After-fold_held-arg-3-1}

-- the memory lent is as long as its type says
held_in : (c : After-fold_held-arg-3-1) → length c.args.buf.now ≡ space
held_in c = search rules

room : (c : After-fold_held-arg-3-1) → length c.args.out.now ≡ space
room c = search rules

lines_in_lem : (c : After-fold_held-arg-3-1) → lines_in c.args.out.now ≡ step_lines
lines_in_lem c = ap (λ (k : ℕ). k / line_room) (room c)

pub returns-then-p-eq0 : goal.returns-then-p-eq0
unfolding text_of
returns-then-p-eq0 c =
    let a = c.args in
    let p = rw (lines_in_lem (goal.at.returns-then-p-eq0 c).After-fold_held-arg-3-1) at c.fold_held-p.ensures in
    let k = c.carry-n.ensures in
    let z = c.if-p-eq0.true in (
      step_idle a.reading step_lines a.buf.now a.h p.0 z k.0,
      k.1 ∙ buffer_idle a.reading step_lines a.buf.now a.h p.0 z,
      p.1,
      search rules,
      omega (arith, k.2, held_in (goal.at.returns-then-p-eq0 c).After-fold_held-arg-3-1),
      omega (arith, p.3, room (goal.at.returns-then-p-eq0 c).After-fold_held-arg-3-1),
    )

pub overflow_add-result : goal.overflow_add-result
overflow_add-result c =
    let a = c.args in
    omega (arith, c.fold_held-p.ensures.2, c.if-p-eq0.false, length_held a.buf.now a.h.at a.h.have, min-le_right a.h.have (length a.buf.now), held_in (goal.at.overflow_add-result c).After-fold_held-arg-3-1)

pub returns : goal.returns
unfolding text_of
returns c =
    let a = c.args in
    let p = rw (lines_in_lem (goal.at.returns c).After-fold_held-arg-3-1) at c.fold_held-p.ensures in
    let m = c.min-end.ensures ∙ ap (min a.h.have) (sym (held_in (goal.at.returns c).After-fold_held-arg-3-1)) in
    let z = c.if-p-eq0.false in
    let l = length_held a.buf.now a.h.at a.h.have in
    let r = min-le_right a.h.have (length a.buf.now) in (
      step_busy a.reading step_lines a.buf.now a.h p.0 z m,
      buffer_busy a.reading step_lines a.buf.now a.h p.0 z,
      p.1,
      omega (arith, l, m, z, p.2),
      omega (arith, m, r, held_in (goal.at.returns c).After-fold_held-arg-3-1),
      omega (arith, p.3, room (goal.at.returns c).After-fold_held-arg-3-1),
    )
