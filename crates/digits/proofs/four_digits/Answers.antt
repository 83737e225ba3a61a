-- What `digits_four` says of four digits. Assumes nothing.
use native.Mathlib.Omega.{arith}
use Rattle.digits.proofs.Numbers.{digits_four}
use Rattle.digits.proofs.four_digits.Goals as goal

pub returns : goal.returns
returns c =
    let a = c.args in
    rw (digits_four 16 a.t.now a.i (omega arith), c.digit_at-4.ensures.0, c.digit_at-3.ensures.0, c.digit_at-2.ensures.0, c.digit_at.ensures.0)
