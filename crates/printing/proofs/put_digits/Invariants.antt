-- The invariant: the digits that are left come to all of them. Assumes nothing.
use mathlib.Core.Path.{◌≡◌}
use Rattle.buffers.specs.Memory.{put}
use Rattle.printing.specs.Decimal.{digits}
use Rattle.printing.proofs.put_digits.Given as goal

abbrev pub invariant-loop-i : goal.invariant-loop-i
invariant-loop-i l = put l.initial.out l.at (digits l.n l.v) ≡ put l.out l.at (digits l.i l.rest)
