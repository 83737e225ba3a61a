-- A place is its type's own, and past the last there is no type. Assumes nothing.
use mathlib.Core.Path.{ap, sym}
use native.Mathlib.Omega.{arith}
use Rattle.values.specs.Value.{place}
use Rattle.values.proofs.Places.{none_past}
use Rattle.places.proofs.Tables.{own_place}
use Rattle.places.proofs.known.Goals as goal

pub returns-then-n-lt39 : goal.returns-then-n-lt39
returns-then-n-lt39 c = (sym (own_place c.args.n c.if-n-lt39.true), c.if-n-lt39.true)

pub returns-else-n-lt39 : goal.returns-else-n-lt39
returns-else-n-lt39 c = (sym (ap place (none_past c.args.n c.if-n-lt39.false)), omega arith)
