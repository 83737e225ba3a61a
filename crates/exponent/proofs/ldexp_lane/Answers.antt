-- `exponent::ldexp_lane` meets its contract: its two tests are those of the definition, and a magnitude leaves room for the sign. Assumes nothing.
use Rattle.std.proofs.Common.{◌*◌, sym, arith, lt-ltb, le-leb}
use borrow.Author.Tests.{lt-leb}
use lib.Ieee.{up, down}
use Rattle.half.specs.Format.{f32, infinity, magnitude, units}
use Rattle.exponent.specs.Exponent.{integer}
use Rattle.exponent.proofs.RoundsOnce.{magnitude_most, nan_worked_out, infinity_unchanged, finite_is}
use Rattle.exponent.proofs.ldexp_lane.Goals as goal

pub returns-then-m-gt2139095040 : goal.returns-then-m-gt2139095040
returns-then-m-gt2139095040 c = sym (nan_worked_out f32 c.args.x (integer c.args.n) (lt-ltb (infinity f32) (magnitude f32 c.args.x) c.if-m-gt2139095040.true))

pub returns-then-m-eq2139095040 : goal.returns-then-m-eq2139095040
returns-then-m-eq2139095040 c = sym (infinity_unchanged f32 c.args.x (integer c.args.n) c.if-m-eq2139095040.true)

pub overflow_add-result : goal.overflow_add-result
overflow_add-result c =
    let a = c.args in
    let z = integer a.n in
    omega (arith, c.scaled-s.ensures, magnitude_most f32 (units f32 (magnitude f32 a.x) * up z) (down z))

pub returns-then-x-lt2147483648 : goal.returns-then-x-lt2147483648
returns-then-x-lt2147483648 c =
    let a = c.args in
    rw (finite_is f32 a.x (integer a.n) (omega arith), lt-leb 0x8000_0000 a.x c.if-x-lt2147483648.true) (omega (arith, c.scaled-s.ensures))

pub returns-else-x-lt2147483648 : goal.returns-else-x-lt2147483648
returns-else-x-lt2147483648 c =
    let a = c.args in
    rw (finite_is f32 a.x (integer a.n) (omega arith), le-leb 0x8000_0000 a.x c.if-x-lt2147483648.false) (omega (arith, c.scaled-s.ensures))
