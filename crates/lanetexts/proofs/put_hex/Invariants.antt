-- The invariant: what is to stand in the memory at the end, said over the memory as it is, stays the same with each digit. Assumes nothing.
use Prim.Native.Nat.{◌+◌, ◌≤◌}
use mathlib.Core.Path.{◌≡◌}
use mathlib.Core.List.{◌++◌}
use lib.ListN.{drop, take, length}
use Rattle.spelling.specs.Hex.{hex_bytes}
use Rattle.lanetexts.proofs.put_hex.Given as goal

abbrev pub invariant-loop-i : goal.invariant-loop-i
invariant-loop-i l = (l.i ≤ l.n) × (length l.out ≡ length l.initial.out)
    × (take l.at l.initial.out ++ hex_bytes l.n l.v ++ drop (l.at + l.n) l.initial.out ≡ take l.at l.out ++ hex_bytes l.i l.rest ++ drop (l.at + l.i) l.out)

abbrev pub decreases-loop-i : goal.decreases-loop-i
decreases-loop-i l = l.i
