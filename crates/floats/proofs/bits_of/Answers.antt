-- `floats::bits_of` meets its contract: all NaN are one, and its pattern is 7FC00000. Assumes nothing.
use mathlib.Core.Path.{sym, ap, ◌∙◌}
use lib.Ieee.{binary32, to_bits}
use Rattle.floats.proofs.Nan.{one_nan}
use Rattle.floats.proofs.bits_of.Goals as goal

pub returns-then-is_nan : goal.returns-then-is_nan
unfolding to_bits
returns-then-is_nan c = sym (ap (to_bits binary32) (one_nan c.args.x (sym c.is_nan.ensures.value ∙ c.if-is_nan.true)))
