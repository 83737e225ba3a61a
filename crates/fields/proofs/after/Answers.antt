-- A part to the end is what is dropped to; past the end nothing is left. Assumes nothing.
use lib.ListN.{length, drop, length-drop, drop_of_length-le}
use lib.Seq.{take_all}
use mathlib.Core.Path.{sym}
use Prim.Native.Nat.{◌+◌, ◌-◌}
use native.Mathlib.Omega.{arith}
use Rattle.fields.proofs.after.Goals as goal

pub returns-then-n-t : goal.returns-then-n-t
returns-then-n-t c =
    let t = c.args.t.now in
    let n = c.args.n in
    take_all (length t - (n + 1)) (drop (n + 1) t) (omega (arith, length-drop (n + 1) t))

pub returns-else-n-t : goal.returns-else-n-t
returns-else-n-t c =
    let t = c.args.t.now in
    let n = c.args.n in
    sym (drop_of_length-le t {i = n + 1} (omega arith))
