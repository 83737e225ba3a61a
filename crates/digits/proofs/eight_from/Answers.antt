-- Two parts of four digits. Assumes nothing.
use native.Mathlib.Omega.{arith}
use Rattle.digits.proofs.Numbers.{digits_parts, number_parts}
use Rattle.digits.proofs.eight_from.Goals as goal

pub returns : goal.returns
returns c =
    let a = c.args in
    rw (c.choose.ensures, c.four_value-2.ensures.0, c.four_value.ensures.0, c.four_digits-2.ensures, c.four_digits.ensures, digits_parts 16 a.t.now a.i 4 4, number_parts a.t.now a.i 4 4 (omega arith))
