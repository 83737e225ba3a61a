-- The invariant: the arguments of the whole are those counted and those of what is left. Assumes nothing.
use borrow.Author.Rules.{rules}
use Prim.Native.Nat.{◌-◌}
use mathlib.Core.Path.{◌≡◌}
use native.Mathlib.Omega.{arith}
use lib.ListN.{length, drop}
use Rattle.fields.specs.Fields.{argument_count}
use Rattle.fields.proofs.Tabs.{count_step, count_end}
use Rattle.fields.proofs.argument_count.Goals as goal

pub loop-b-preserved : goal.loop-b-preserved
loop-b-preserved c = let l = c.loop-b in let s = count_step c.args.line.now l.b-index c.one_if-n.result (search rules) c.one_if-n.ensures.0 in (omega arith, omega arith)

pub returns : goal.returns
returns c = let l = c.loop-b in let e : l.b-index ≡ length c.args.line.now = omega arith in let z : argument_count (drop l.b-index c.args.line.now) ≡ 0 = rw e (count_end c.args.line.now) in omega arith
