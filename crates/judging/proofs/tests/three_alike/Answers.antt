-- What the callees ensure, put together, is the test of the shape, and `arm` says when it passes. Assumes nothing.
use mathlib.Core.Path.{refl}
use Rattle.values.proofs.Places.{there}
use Rattle.calls.specs.declared.table.Shape.TheVariants.{ThreeAlike}
use Rattle.calls.proofs.Converse.{arm}
use Rattle.judging.proofs.tests.three_alike.Goals as goal

pub returns : goal.returns
returns c = rw (c.is_at-2.ensures, c.is_at.ensures, c.among.ensures, c.requires.type, there) (let a = c.args in arm a.w.now a.p a.n a.set c.requires ThreeAlike refl)
