-- The choices are those of `size_by`. Assumes nothing.
use mathlib.Core.Path.{◌≡◌}
use Rattle.typenames.specs.Program.{size_by}
use Rattle.typenames.proofs.TypeTexts.{size_right}
use Rattle.typenames.proofs.size_by.Goals as goal

pub returns : goal.returns
unfolding size_by
returns c =
    let x = c.args.x in
    let e : c.choose-3.result ≡ size_by x = rw (c.choose-3.ensures, c.choose-2.ensures, c.choose.ensures) in
    (e, rw e (size_right x).0)
