-- A bool's name has four bytes, the others' three. Assumes nothing.
use mathlib.Core.Path.{refl}
use borrow.Author.Tests.{eq-eqb, ne_eqb}
use Rattle.typenames.proofs.after_scalar.Goals as goal

pub returns-then-p-eq1 : goal.returns-then-p-eq1
returns-then-p-eq1 c = rw (eq-eqb c.args.p 1 c.if-p-eq1.true) refl

pub returns-else-p-eq1 : goal.returns-else-p-eq1
returns-else-p-eq1 c = rw (ne_eqb c.args.p 1 c.if-p-eq1.false) refl
