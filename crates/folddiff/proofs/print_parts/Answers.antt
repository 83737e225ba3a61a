-- Less is left after each part, where it is not the last. Assumes nothing.
use native.Mathlib.Omega.{arith}
use borrow.Author.Tests.{lt-ltb}
use Rattle.diffs.proofs.AllParts.{less_left}
use Rattle.folddiff.proofs.print_parts.Goals as goal

pub loop-done-smaller : goal.loop-done-smaller
loop-done-smaller g c =
    let h = rw (lt-ltb _ _ c.if-p-kinds.false) at (less_left c.args.refusal c.args.kinds.now c.loop-done.done c.diff_part-p.ensures.0) in
    omega (arith, h)
