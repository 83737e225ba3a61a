-- The bytes are copied into the part that has their length. Assumes nothing.
use Prim.Native.Nat.{◌+◌, ◌-◌}
use native.Mathlib.Omega.{arith}
use mathlib.Core.Path.{refl, ap, ◌∙◌}
use lib.ListN.{length}
use borrow.Rule.Slice.PartMut.{put_mid}
use Rattle.buffers.proofs.Puts.{put_part}
use Rattle.buffers.proofs.copy.Goals as goal

pub returns : goal.returns
returns c =
    let a = c.args in
    (refl, ap (put_mid a.at (a.at + length a.s.now - a.at) a.out.now) c.copy_from_slice.ensures.after ∙ put_part a.out.now a.at _ a.s.now (omega arith))
