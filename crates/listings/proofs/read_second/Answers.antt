-- What is left is cut at its first tab, or is the second field. Assumes nothing.
use mathlib.Core.Path.{ap, sym, ◌∙◌}
use mathlib.Core.List.{◌∷◌}
use native.Mathlib.Omega.{arith}
use Rattle.listings.proofs.Parted.{whole, cut_at}
use Rattle.listings.specs.Answers.{of_fields}
use Rattle.listings.proofs.read_second.Goals as goal

pub returns-then-n-t : goal.returns-then-n-t
returns-then-n-t c =
    let a = c.args in
    c.read_third.ensures ∙ sym (ap (λ l. of_fields (a.v.now ∷ l)) (cut_at a.t.now c.find-n.ensures.0 c.if-n-t.true))

pub returns-else-n-t : goal.returns-else-n-t
returns-else-n-t c = c.read_two.ensures ∙ sym (rw (whole c.args.t.now (omega arith)))
