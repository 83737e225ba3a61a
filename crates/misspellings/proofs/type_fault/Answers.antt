-- A place that is not 0 is a type's. Assumes nothing.
use mathlib.Core.Path.{sym, ◌∙◌}
use borrow.Author.Tests.{eq-eqb, ne_eqb}
use Rattle.spelling.specs.Types.{kind_of}
use Rattle.places.proofs.Tables.{typed}
use Rattle.misspellings.specs.Misspellings.{type_fault}
use Rattle.misspellings.proofs.type_fault.Goals as goal

pub returns-then-type_of-eq0 : goal.returns-then-type_of-eq0
unfolding type_fault
returns-then-type_of-eq0 c =
    let k = kind_of c.args.s.now in
    c.misspelled.ensures ∙ rw (← (typed k), eq-eqb _ _ (sym c.type_of.ensures.0 ∙ c.if-type_of-eq0.true))

pub returns-else-type_of-eq0 : goal.returns-else-type_of-eq0
unfolding type_fault
returns-else-type_of-eq0 c =
    let k = kind_of c.args.s.now in
    c.misspelled-else-type_of-eq0.ensures ∙ rw (← (typed k), ne_eqb _ _ (λ z. c.if-type_of-eq0.false (c.type_of.ensures.0 ∙ z)))
