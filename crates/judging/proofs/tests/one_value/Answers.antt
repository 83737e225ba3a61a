-- What the callees ensure, put together, is the test of the shape, and `arm` says when it passes. Assumes nothing.
use mathlib.Core.Path.{refl}
use Rattle.calls.specs.declared.table.Shape.TheVariants.{OneValue}
use Rattle.calls.proofs.Converse.{arm}
use Rattle.judging.proofs.tests.one_value.Goals as goal

pub returns : goal.returns
returns c = rw (c.among.ensures, c.requires.type) (let a = c.args in arm a.w.now a.p a.n a.set c.requires OneValue refl)
