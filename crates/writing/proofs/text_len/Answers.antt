-- The length is the sum of the lengths of the type and of the lanes, sixteen of eight digits at most. Assumes nothing.
use Prim.Native.Nat.{◌+◌, ◌*◌, ◌≤◌}
use native.Mathlib.Nat.{mul-le-mul}
use native.Mathlib.Omega.{arith}
use Rattle.spelling.specs.Write.{text_length}
use Rattle.writing.proofs.text_len.Goals as goal
use Rattle.writing.proofs.text_len.Goals.{After-count_at}

small : (c : After-count_at) → c.count_at.result * (c.digit_count-digits.result + 1) ≤ 144
small c =
    let d : c.digit_count-digits.result + 1 ≤ 9 = omega arith in
    mul-le-mul c.count_at.ensures.1 d

pub overflow_mul-result : goal.overflow_mul-result
overflow_mul-result c = record { fits = omega (arith, small c) }

pub overflow_add-result-2 : goal.overflow_add-result-2
overflow_add-result-2 c = record { fits = omega (arith, small c) }

pub returns : goal.returns
unfolding text_length
returns c = (rw (c.type_len.ensures.0, c.count_at.ensures.0, c.digit_count-digits.ensures.0, c.scalar_at.ensures), omega (arith, small c))
