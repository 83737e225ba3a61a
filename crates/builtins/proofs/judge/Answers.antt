-- The part from the first word to the last is the whole. Assumes nothing.
use Prim.Native.Nat.{◌-◌}
use mathlib.Core.Path.{◌≡◌}
use native.Mathlib.Omega.{arith}
use lib.ListN.{length, take, drop}
use lib.Seq.{take_all}
use Rattle.builtins.proofs.judge.Goals as goal

pub returns : goal.returns
returns c =
    let w = c.args.w.now in
    let whole : take (length w - 0) (drop 0 w) ≡ w = take_all (length w - 0) w (omega arith) in
    rw whole at c.judge.ensures
