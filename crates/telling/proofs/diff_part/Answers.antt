-- The refusal and its newline are one write; without a refusal the lines are. Assumes nothing.
use mathlib.Core.List.{[], ◌∷◌}
use native.Mathlib.Omega.{arith}
use lib.ListN.{length-append}
use Rattle.buffers.proofs.Puts.{both_made, room_left}
use Rattle.printing.specs.Decimal.{refused_text}
use Rattle.telling.proofs.Parts.{refused_fits, refused_part}
use Rattle.telling.proofs.diff_part.Goals as goal

pub put_refusal-e-requires : goal.put_refusal-e-requires
put_refusal-e-requires c = omega (arith, simp length-append at (refused_fits c.args.refusal))

pub put_byte-requires : goal.put_byte-requires
put_byte-requires c =
    let a = c.args in
    omega (arith, room_left a.out.now 0 (refused_text a.refusal) (10 ∷ []) (omega (arith, refused_fits a.refusal)) c.put_refusal-e.ensures)

pub returns-then-refusal-ne0 : goal.returns-then-refusal-ne0
returns-then-refusal-ne0 c =
    let a = c.args in
    let m = both_made a.out.now 0 (refused_text a.refusal) (10 ∷ []) (omega (arith, refused_fits a.refusal)) c.put_refusal-e.ensures c.put_byte.ensures in
    refused_part a.refusal c.if-refusal-ne0.true a.kinds.now a.done a.out.now m

pub returns : goal.returns
returns c = rw c.if-refusal-ne0.false c.put_part.ensures
