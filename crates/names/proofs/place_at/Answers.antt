-- The table is the definition's, computed. Assumes nothing.
use Rattle.names.specs.Program.{slot, places, place}
use Rattle.names.proofs.NameSlots.{place_below}
use mathlib.Core.Path.{◌≡◌}
use native.Mathlib.Omega.{arith}
use Rattle.names.proofs.place_at.Goals as goal

pub returns : goal.returns
unfolding place places slot
returns c =
    let e : c.from.result ≡ place c.args.h = c.from.ensures in
    (e, omega (arith, place_below c.args.h))
