-- The two tests are the check by `few`. Assumes nothing.
use native.Mathlib.Omega.{arith}
use Rattle.values.proofs.Checked.{checked}
use Rattle.values.proofs.Few.{few}
use Rattle.checks.proofs.few_formed.Goals as goal

pub returns : goal.returns
unfolding checked
returns c =
    let a = c.args in
    rw (c.four_ok.ensures, c.none_past.ensures)
    (few a.l.now a.n a.bound (omega (arith, c.requires.0)) c.requires.1)
