-- A part to the end is what is dropped to; past the end nothing is left. Assumes nothing.
use lib.ListN.{length, drop, length-drop, drop_of_length-le}
use lib.Seq.{take_all}
use mathlib.Core.Path.{sym}
use Prim.Native.Nat.{◌-◌}
use native.Mathlib.Omega.{arith}
use Rattle.listings.proofs.rest.Goals as goal

pub returns-then-at-s : goal.returns-then-at-s
returns-then-at-s c = let s = c.args.s.now in let n = c.args.at in take_all (length s - n) (drop n s) (omega (arith, length-drop n s))

pub returns-else-at-s : goal.returns-else-at-s
returns-else-at-s c = let s = c.args.s.now in sym (drop_of_length-le s {i = c.args.at} (omega arith))
