-- No more bytes are done with than there are. Assumes nothing.
use Prim.Native.Nat.{ℕ, suc, ◌≤◌}
use mathlib.Core.List.{List}
use mathlib.Core.Bool.{Bool, true, false, ◌||◌, cond}
use mathlib.Core.Path.{◌≡◌, refl}
use native.Mathlib.Omega.{arith}
use lib.ListN.{length}
use borrow.Author.Tests.{ltb-true}
use Rattle.cutting.specs.Lines.{newline_at}
use Rattle.cutting.specs.Cutting.{ended, over, piece_size}

module _ (skip last : Bool) (s : List ℕ) where
  pub size_le : piece_size skip last s ≤ length s
  unfolding piece_size
  size_le = by (ended s) refl (skip || over s || last)
    where
      by : (b : Bool) → ended s ≡ b → (c : Bool) → cond b (suc (newline_at s)) (cond c (length s) 0) ≤ length s
      by true e c = omega (arith, ltb-true (newline_at s) (length s) e)
      by false e true = omega arith
      by false e false = omega arith
