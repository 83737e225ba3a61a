-- `norm::Format::least` meets its contract: its two constants are the floats 0 and -1. Assumes nothing.
use lib.Ieee.{of_bits, neg}
use Rattle.norm.proofs.Format.least.Goals as goal

pub returns-then-self : goal.returns-then-self
unfolding of_bits neg
returns-then-self c = rw c.if-self.true
