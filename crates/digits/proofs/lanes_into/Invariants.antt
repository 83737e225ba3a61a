-- The invariant: putting all lanes comes to putting those from the k-th on, from where the turn stands. Assumes nothing.
use Prim.Native.Nat.{◌+◌, ◌-◌, ◌*◌, ◌≤◌}
use mathlib.Core.Path.{◌≡◌}
use lib.ListN.{length}
use Rattle.buffers.specs.Memory.{put}
use Rattle.spelling.specs.Hex.{digit_count, digit_bound}
use Rattle.digits.specs.Program.{lanes_from}
use Rattle.digits.proofs.lanes_into.Given as goal

abbrev pub invariant-loop-k : goal.invariant-loop-k
invariant-loop-k l = (l.k ≤ l.n) × (length l.w ≡ length l.initial.w) × (l.next + (l.n - l.k) * (digit_count l.s + 1) ≤ length l.t)
    × (length (lanes_from (digit_bound l.s) (digit_count l.s) 58 l.n l.t l.i) ≡ l.k + length (lanes_from (digit_bound l.s) (digit_count l.s) l.before (l.n - l.k) l.t l.next))
    × (put l.initial.w l.at (lanes_from (digit_bound l.s) (digit_count l.s) 58 l.n l.t l.i) ≡ put l.w (l.at + l.k) (lanes_from (digit_bound l.s) (digit_count l.s) l.before (l.n - l.k) l.t l.next))
