-- A tab and the digits, one after the other; nothing for 0. Assumes nothing.
use Prim.Native.Nat.{◌+◌, ◌≤◌}
use mathlib.Core.List.{[], ◌∷◌, ◌++◌}
use mathlib.Core.Path.{◌≡◌, ap, sym, ◌∙◌}
use native.Mathlib.Omega.{arith}
use lib.ListN.{length}
use Rattle.buffers.specs.Memory.{put}
use Rattle.buffers.proofs.Puts.{put_nil, both_made, room_left}
use Rattle.printing.specs.Decimal.{digits, place_text}
use Rattle.printing.proofs.Digits.{length_digits, placed_none, placed_some, length_placed}
use Rattle.printing.proofs.put_place.Goals as goal
use Rattle.printing.proofs.put_place.Goals.{After-places_of-n}

-- the text, where there is one
text : (c : After-places_of-n) → place_text c.args.place ≡ (9 ∷ []) ++ digits c.places_of-n.result c.args.place
text c = let p = c.args.place in rw c.places_of-n.ensures (placed_some p c.if-place-eq0.false)

room : (c : After-places_of-n)
    → c.args.at + length ((9 ∷ []) ++ digits c.places_of-n.result c.args.place) ≤ length c.args.out.now
room c = omega (arith, c.requires, ap length (text c))

pub returns-then-place-eq0 : goal.returns-then-place-eq0
returns-then-place-eq0 c =
    let a = c.args in
    let e = placed_none a.place c.if-place-eq0.true in
    (omega (arith, ap length e), sym (ap (put a.out.now a.at) e ∙ put_nil a.out.now a.at))

pub put_byte-e-requires : goal.put_byte-e-requires
put_byte-e-requires c = omega (arith, c.requires, length_placed c.args.place c.if-place-eq0.false)

pub put_digits-requires : goal.put_digits-requires
put_digits-requires c =
    let a = c.args in
    let n = c.places_of-n.result in
    omega (arith, length_digits n a.place, room_left a.out.now a.at (9 ∷ []) (digits n a.place) (room (goal.at.put_digits-requires c).After-places_of-n) c.put_byte-e.ensures)

pub returns : goal.returns
returns c =
    let a = c.args in
    let n = c.places_of-n.result in
    let f = c.put_digits.ensures in
    rw (text (goal.at.returns c).After-places_of-n)
    (both_made a.out.now a.at (9 ∷ []) (digits n a.place) (room (goal.at.returns c).After-places_of-n) c.put_byte-e.ensures (rw (length_digits n a.place) f.0, f.1))
