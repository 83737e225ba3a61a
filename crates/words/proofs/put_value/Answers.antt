-- The type's place is the first word, and the lanes are copied behind it. Assumes nothing.
use Prim.Native.Nat.{◌+◌, ◌-◌}
use mathlib.Core.Path.{◌≡◌, ap, sym, ◌∙◌}
use native.Mathlib.Omega.{arith}
use borrow.Author.Rules.{rules}
use lib.ListN.{length, set, length-set}
use borrow.Rule.Slice.PartMut.{put_mid}
use Rattle.buffers.proofs.Puts.{put_cons, put_part}
use Rattle.words.proofs.put_value.Goals as goal

pub returns : goal.returns
returns c =
    let a = c.args in
    let p = c.place_of.result in
    let n : length a.v.lanes ≡ 16 = search rules in
    let m = length-set a.out.now a.at p in
    ap (put_mid (a.at + 1) (a.at + 17 - (a.at + 1)) (set a.out.now a.at p)) c.copy_from_slice.ensures.after
    ∙ put_part (set a.out.now a.at p) (a.at + 1) _ a.v.lanes (omega arith)
    ∙ sym (rw (← c.place_of.ensures) (put_cons a.out.now a.at p a.v.lanes (omega arith)))
