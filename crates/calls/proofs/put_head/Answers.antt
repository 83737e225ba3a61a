-- Three entries set are three written. Assumes nothing.
use Prim.Native.Nat.{ℕ, ◌≤◌}
use mathlib.Core.List.{List, [], ◌∷◌}
use mathlib.Core.Path.{◌≡◌, refl}
use native.Mathlib.Omega.{arith}
use lib.ListN.{length, set}
use Rattle.buffers.specs.Memory.{put}
use borrow.Author.Rules.{rules}
use Rattle.calls.proofs.put_head.Goals as goal

three : (w : List ℕ) (b n t : ℕ) → 3 ≤ length w → set (set (set w 0 b) 1 n) 2 t ≡ put w 0 (b ∷ n ∷ t ∷ [])
unfolding put
three [] b n t h = absurd (omega arith)
three (x ∷ []) b n t h = absurd (omega arith)
three (x ∷ y ∷ []) b n t h = absurd (omega arith)
three (x ∷ y ∷ z ∷ w) b n t h = refl

pub bounds-w-1 : goal.bounds-w-1
bounds-w-1 c = let h : 2 ≤ length c.args.w.now = omega arith in search rules

pub returns : goal.returns
returns c = three c.args.w.now _ _ _ c.requires
