-- The choices are those of `scalar_by`. Assumes nothing.
use mathlib.Core.List.{[], ◌∷◌}
use mathlib.Core.Path.{◌≡◌}
use Rattle.typenames.specs.Program.{scalar_by}
use Rattle.typenames.proofs.TypeTexts.{scalar_right}
use Rattle.typenames.proofs.scalar_by.Goals as goal

pub returns : goal.returns
unfolding scalar_by
returns c =
    let a = c.args in
    let e : c.choose-2.result ≡ scalar_by a.x a.y a.z a.w = rw (c.choose-2.ensures, c.choose.ensures, c.choose-unsigned.ensures, c.choose-single.ensures, c.choose-half.ensures) in
    (e, rw e (scalar_right (a.x ∷ a.y ∷ a.z ∷ a.w ∷ []) 0).0)
