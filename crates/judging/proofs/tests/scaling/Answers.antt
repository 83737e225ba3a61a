-- What the callees ensure, put together, is the test of the shape, and `arm` says when it passes. Assumes nothing.
use mathlib.Core.Path.{refl, ap, ◌∙◌}
use Rattle.values.specs.declared.Scalar.TheVariants.{I32}
use Rattle.values.specs.declared.Kind.{Kind}
use Rattle.values.specs.Value.{shaped, place, kind_at}
use Rattle.words.specs.Words.{value_at}
use Rattle.values.proofs.Places.{there}
use Rattle.places.proofs.Tables.{integers_known}
use Rattle.places.specs.Program.{set_of}
use Rattle.calls.specs.Table.{takes}
use Rattle.calls.specs.declared.Builtin.TheVariants.{Ldexp}
use Rattle.calls.specs.declared.table.Shape.TheVariants.{Scaling}
use Rattle.calls.specs.Program.{types_of}
use Rattle.calls.proofs.Converse.{arm}
use borrow.Author.Rules.{rules}
use Rattle.judging.proofs.tests.scaling.Goals as goal

pub is_at-requires : goal.is_at-requires
is_at-requires c =
    let f = c.requires.0 in
    let k = (value_at c.args.w.now 3).kind in
    let e = c.integers_at.ensures.0 ∙ ap (λ (l : Kind). place (shaped I32 l)) (ap kind_at f.type ∙ there k) in
    (search rules, rw e (integers_known k (rw f.type at f.known) (rw f.type at f.within)), c.integers_at.ensures.1)

pub returns : goal.returns
unfolding set_of
returns c = rw (c.is_at.ensures, c.integers_at.ensures.0, c.among.ensures, c.requires.0.type, c.requires.1) (simp there (let a = c.args in arm a.w.now a.p a.n (types_of (takes Ldexp)) c.requires.0 Scaling refl))
