-- Three writes are one. Assumes nothing.
use mathlib.Core.List.{◌++◌}
use mathlib.Core.Path.{refl}
use native.Mathlib.Omega.{arith}
use lib.ListN.{length-append}
use Rattle.buffers.specs.Text.{bytes}
use Rattle.buffers.proofs.Puts.{both_made}
use Rattle.typetexts.proofs.TypeTexts.{scalar_at, angled_length}
use Rattle.typetexts.proofs.put_angled.Goals as goal

pub put_scalar-e-requires : goal.put_scalar-e-requires
put_scalar-e-requires c = (c.requires.0, c.requires.1, omega (arith, angled_length c.args.p))

pub put_byte-requires-2 : goal.put_byte-requires-2
put_byte-requires-2 c = omega (arith, angled_length c.args.p)

pub overflow_add-result : goal.overflow_add-result
overflow_add-result c = omega (arith, angled_length c.args.p)

pub returns : goal.returns
returns c =
    let o = c.args.out.now in
    let at = c.args.at in
    let x = scalar_at c.args.p in
    let l = length-append x (bytes ">") in
    both_made o at (bytes "<" ++ x) (bytes ">") c.requires.2 (both_made o at (bytes "<") x (omega (arith, l)) (refl, c.put_byte.ensures) c.put_scalar-e.ensures) (refl, c.put_byte-2.ensures)
