-- The type that the text starts with is all of it or there is none: `type_right` and `type_wrong`. Assumes nothing.
use mathlib.Core.Path.{◌∙◌}
use native.Mathlib.Omega.{arith}
use Rattle.typenames.proofs.TypeTexts.{type_right, type_wrong}
use Rattle.typenames.proofs.type_of.Goals as goal

pub returns-then-type_len-s : goal.returns-then-type_len-s
returns-then-type_len-s c =
    let s = c.args.s.now in
    let f = c.type_from-p.ensures.0 in
    let n = rw f at c.type_len.ensures.0 in
    (f ∙ type_right s (omega arith), c.type_from-p.ensures.1)

pub returns-else-type_len-s : goal.returns-else-type_len-s
returns-else-type_len-s c =
    let s = c.args.s.now in
    let n = rw c.type_from-p.ensures.0 at c.type_len.ensures.0 in
    (type_wrong s (λ e. omega arith), omega arith)
