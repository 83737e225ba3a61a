-- One digit more than none. Assumes nothing.
use native.Mathlib.Nat.{add-zero, zero-add}
use native.Mathlib.Omega.{arith}
use Rattle.spelling.specs.Hex.{number}
use Rattle.digits.proofs.Numbers.{digits_more, number_more}
use Rattle.digits.proofs.one_from.Goals as goal

pub returns : goal.returns
unfolding number
returns c =
    let a = c.args in
    rw (c.choose.ensures, c.digit_at-d.ensures.0, digits_more 2 a.t.now a.i 0 (omega arith), number_more a.t.now a.i 0 (omega arith), add-zero, zero-add)
