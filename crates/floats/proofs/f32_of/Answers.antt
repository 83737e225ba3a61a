-- `floats::f32_of` meets its contract: its test is the format's test for a NaN. Assumes nothing.
use borrow.Author.Tests.{lt-ltb, le-ltb}
use mathlib.Core.Path.{sym, ◌∙◌, subst}
use mathlib.Core.Bool.{Bool, not}
use lib.Dec.{T}
use lib.Ieee.{binary32, div, of_bits}
use Rattle.floats.proofs.Nan.{pattern_test, float_test, one_nan}
use Rattle.floats.proofs.f32_of.Goals as goal

pub float_from_bits-result : goal.float_from_bits-result
float_from_bits-result c = subst (λ (t : Bool). T (not t)) (sym (pattern_test _ ∙ le-ltb _ _ c.if-n-gt2139095040.false)) tt

pub returns-then-n-gt2139095040 : goal.returns-then-n-gt2139095040
unfolding div of_bits
returns-then-n-gt2139095040 c =
    let n = c.args.n in
    sym (one_nan (of_bits binary32 n) (float_test n ∙ lt-ltb _ _ c.if-n-gt2139095040.true))
