-- Three writes of a byte are one. Assumes nothing.
use native.Mathlib.Omega.{arith}
use lib.ListN.{length, set, length-set}
use Prim.Native.Nat.{ℕ, ◌+◌, ◌≤◌}
use mathlib.Core.List.{List, [], ◌∷◌}
use mathlib.Core.Path.{◌≡◌, sym, ◌∙◌}
use Rattle.buffers.specs.Memory.{put}
use Rattle.buffers.proofs.Puts.{put_cons, put_set}
use Rattle.typetexts.proofs.put_three.Goals as goal

three : (o : List ℕ) (at x y z : ℕ) → at + 3 ≤ length o → set (set (set o at x) (at + 1) y) (at + 2) z ≡ put o at (x ∷ y ∷ z ∷ [])
three o at x y z h =
    let e : at + 1 + 1 ≡ at + 2 = omega arith in
    put_set (set (set o at x) (at + 1) y) (at + 2) z (rw (length-set, length-set) (omega arith))
    ∙ sym (put_cons o at x (y ∷ z ∷ []) (omega arith) ∙ rw e at (put_cons (set o at x) (at + 1) y (z ∷ []) (rw length-set (omega arith))))

pub bounds-out-at-2 : goal.bounds-out-at-2
bounds-out-at-2 c = rw length-set (omega arith)

pub bounds-out-at-3 : goal.bounds-out-at-3
bounds-out-at-3 c = rw (length-set, length-set) (omega arith)

pub returns : goal.returns
returns c = three c.args.out.now c.args.at c.args.x c.args.y c.args.z c.requires
