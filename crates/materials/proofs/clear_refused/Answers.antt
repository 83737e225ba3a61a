-- Answered, nothing changes; refused, `cleared`. Assumes nothing.
use native.Mathlib.Omega.{arith}
use borrow.Author.Rules.{rules}
use borrow.Author.Tests.{eq-eqb, ne_eqb}
use lib.ListN.{length-set}
use Rattle.materials.proofs.One.{cleared}
use Rattle.materials.proofs.clear_refused.Goals as goal

pub returns-then-refusal-eq0 : goal.returns-then-refusal-eq0
returns-then-refusal-eq0 c = rw (eq-eqb c.args.refusal 0 (omega arith))

pub shape_of-answer : goal.shape_of-answer
shape_of-answer c = simp length-set (search rules)

pub returns : goal.returns
returns c =
    rw (ne_eqb c.args.refusal 0 (omega arith)) (cleared c.args.answer.now c.requires c.clear.ensures c.clear-2.ensures)
