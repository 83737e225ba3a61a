-- One text after the other. Assumes nothing.
use native.Mathlib.Omega.{arith}
use lib.ListN.{length-append}
use Rattle.buffers.proofs.Puts.{both_made, room_left}
use Rattle.printing.specs.Decimal.{refused_text, place_text}
use Rattle.printing.proofs.put_refused.Goals as goal

pub put_refusal-e-requires : goal.put_refusal-e-requires
put_refusal-e-requires c =
    omega (arith, c.requires, length-append (refused_text c.args.refusal) (place_text c.args.place))

pub put_place-requires : goal.put_place-requires
put_place-requires c =
    room_left c.args.out.now c.args.at (refused_text c.args.refusal) (place_text c.args.place) c.requires c.put_refusal-e.ensures

pub returns : goal.returns
returns c =
    both_made c.args.out.now c.args.at (refused_text c.args.refusal) (place_text c.args.place) c.requires c.put_refusal-e.ensures c.put_place.ensures
