-- The bytes are those that the scalar chooses, as `bool_chosen` and `three_chosen` say. Assumes nothing.
use mathlib.Core.Path.{refl}
use native.Mathlib.Omega.{arith}
use Rattle.values.specs.Value.{scalar_of, kind_at}
use Rattle.buffers.specs.Text.{bytes}
use Rattle.buffers.proofs.Puts.{both_made}
use Rattle.typetexts.proofs.TypeTexts.{bool_chosen, three_chosen}
use Rattle.typetexts.proofs.put_scalar.Goals as goal

pub put_three-requires : goal.put_three-requires
put_three-requires c = omega (arith, rw (bool_chosen (scalar_of (kind_at c.args.p)) c.scalar_place-c.ensures c.if-c-eq0.true) at c.requires.2)

pub put_byte-requires : goal.put_byte-requires
put_byte-requires c = omega (arith, rw (bool_chosen (scalar_of (kind_at c.args.p)) c.scalar_place-c.ensures c.if-c-eq0.true) at c.requires.2)

pub returns-then-c-eq0 : goal.returns-then-c-eq0
returns-then-c-eq0 c =
    let a = c.args in
    let e = bool_chosen (scalar_of (kind_at c.args.p)) c.scalar_place-c.ensures c.if-c-eq0.true in
    rw e (both_made a.out.now a.at (bytes "boo") (bytes "l") (rw e at c.requires.2) (refl, c.put_three.ensures) (omega arith, c.put_byte.ensures))

pub put_three-requires-2 : goal.put_three-requires-2
put_three-requires-2 c = rw (three_chosen (scalar_of (kind_at c.args.p)) c.scalar_place-c.ensures c.if-c-eq0.false) at c.requires.2

pub returns : goal.returns
returns c =
    let e = three_chosen (scalar_of (kind_at c.args.p)) c.scalar_place-c.ensures c.if-c-eq0.false in
    rw e (refl, rw (c.choose-z.ensures, c.choose-y.ensures, c.choose-x.ensures, c.choose.ensures) at c.put_three-2.ensures)
