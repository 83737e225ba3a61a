-- A short name has the free slot; of any other the three bytes read are those of the definition. Assumes nothing.
use native.Mathlib.Nat.{mod-lt}
use native.Mathlib.Omega.{arith}
use borrow.Author.Tests.{lt-ltb, le-ltb}
use lib.ListN.{length}
use Rattle.names.specs.Program.{slot}
use borrow.Author.Rules.{rules}
use Rattle.names.proofs.slot_of.Goals as goal

pub returns-then-n-lt3 : goal.returns-then-n-lt3
unfolding slot
returns-then-n-lt3 c = (rw (lt-ltb (length c.args.s.now) 3 c.if-n-lt3.true), search rules)

pub returns : goal.returns
unfolding slot
returns c =
    (rw (le-ltb (length c.args.s.now) 3 c.if-n-lt3.false, c.byte_back-3.ensures.0, c.byte_back-2.ensures.0, c.byte_back.ensures.0), mod-lt _ (omega arith))
