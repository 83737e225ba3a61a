-- Each turn writes one entry of what is left; after the last none is left. Assumes nothing.
use Prim.Native.Nat.{◌+◌}
use mathlib.Core.List.{[]}
use mathlib.Core.Path.{◌≡◌, sym, ◌∙◌}
use native.Mathlib.Nat.{zero-add}
use native.Mathlib.Omega.{arith}
use lib.ListN.{length, drop}
use lib.Seq.{drop-length}
use Rattle.buffers.proofs.Puts.{put_drop, put_nil}
use Rattle.moves.proofs.matrix.put_copy.Goals as goal

pub loop-i-preserved : goal.loop-i-preserved
loop-i-preserved c =
    let s = c.args.s.now in
    let l = c.loop-i in
    l.invariant ∙ rw (zero-add l.i, zero-add (l.i + 1)) at (put_drop l.out 0 s l.i (omega arith) (omega arith))

pub returns : goal.returns
returns c =
    let s = c.args.s.now in
    let l = c.loop-i in
    let e : l.i ≡ length s = omega arith in
    let z : drop l.i s ≡ [] = rw (e, drop-length) in
    sym (l.invariant ∙ rw z (put_nil l.out l.i))
