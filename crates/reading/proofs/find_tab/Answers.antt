-- The part from the first byte to the last is the whole. Assumes nothing.
use Prim.Native.Nat.{◌-◌}
use mathlib.Core.Path.{◌≡◌}
use native.Mathlib.Omega.{arith}
use lib.ListN.{length, take, drop}
use lib.Seq.{take_all}
use Rattle.reading.proofs.find_tab.Goals as goal

pub returns : goal.returns
returns c =
    let t = c.args.t.now in
    let whole : take (length t - 0) (drop 0 t) ≡ t = take_all (length t - 0) t (omega arith) in
    rw whole at c.find.ensures
