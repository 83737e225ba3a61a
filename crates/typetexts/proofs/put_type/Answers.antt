-- A scalar's text stands alone; a vector's and a matrix's are three writes that are one, as `vector_written` and `matrix_written` say. Assumes nothing.
use native.Mathlib.Omega.{arith}
use Rattle.typetexts.proofs.TypeTexts.{scalar_text_lem, vector_length, vector_written, matrix_length, matrix_written}
use Rattle.typetexts.proofs.put_type.Goals as goal

pub put_scalar-requires : goal.put_scalar-requires
put_scalar-requires c = (c.requires.0, c.requires.1, rw (scalar_text_lem c.args.p c.requires.0 c.if-p-lt6.true) at c.requires.2)

pub returns-then-p-lt6 : goal.returns-then-p-lt6
returns-then-p-lt6 c = rw (scalar_text_lem c.args.p c.requires.0 c.if-p-lt6.true) c.put_scalar.ensures

pub put_three-requires : goal.put_three-requires
put_three-requires c = omega (arith, vector_length c.args.p c.if-p-lt6.false c.if-p-lt21.true)

pub put_byte-requires : goal.put_byte-requires
put_byte-requires c = omega (arith, vector_length c.args.p c.if-p-lt6.false c.if-p-lt21.true)

pub put_angled-requires : goal.put_angled-requires
put_angled-requires c = (c.requires.0, c.requires.1, omega (arith, vector_length c.args.p c.if-p-lt6.false c.if-p-lt21.true))

pub returns-then-p-lt21 : goal.returns-then-p-lt21
returns-then-p-lt21 c = vector_written c.args.p c.if-p-lt6.false c.if-p-lt21.true c.args.out.now c.args.at c.requires.2 c.size_byte.ensures c.put_three.ensures c.put_byte.ensures c.put_angled.ensures

pub put_three-requires-2 : goal.put_three-requires-2
put_three-requires-2 c = omega (arith, matrix_length c.args.p c.if-p-lt21.false c.requires.1)

pub put_three-requires-3 : goal.put_three-requires-3
put_three-requires-3 c = omega (arith, matrix_length c.args.p c.if-p-lt21.false c.requires.1)

pub put_angled-requires-2 : goal.put_angled-requires-2
put_angled-requires-2 c = (c.requires.0, c.requires.1, omega (arith, matrix_length c.args.p c.if-p-lt21.false c.requires.1))

pub returns : goal.returns
returns c = matrix_written c.args.p c.if-p-lt21.false c.requires.1 c.args.out.now c.args.at c.requires.2 c.size_byte-2.ensures c.size_byte-3.ensures c.put_three-2.ensures c.put_three-3.ensures c.put_angled-2.ensures
