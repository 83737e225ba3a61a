-- What the callees ensure, put together, is the test of the shape, and `arm` says when it passes. Assumes nothing.
use mathlib.Core.Path.{refl}
use Rattle.values.proofs.Places.{there}
use Rattle.places.specs.Program.{set_of}
use Rattle.calls.specs.Table.{takes}
use Rattle.calls.specs.declared.Builtin.TheVariants.{Bitcast}
use Rattle.calls.specs.declared.table.Shape.TheVariants.{Casting}
use Rattle.calls.specs.Program.{types_of}
use Rattle.calls.proofs.Converse.{arm}
use Rattle.judging.proofs.tests.casting.Goals as goal

pub returns : goal.returns
unfolding set_of
returns c = rw (c.bytes_at-2.ensures, c.bytes_at.ensures, c.among-2.ensures, c.among.ensures, c.known-t.ensures.0, c.word.ensures, c.requires.0.type, c.requires.1) (simp there (let a = c.args in arm a.w.now a.p a.n (types_of (takes Bitcast)) c.requires.0 Casting refl))
