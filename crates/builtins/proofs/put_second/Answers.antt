-- Of place 0 the value is the empty one. Assumes nothing.
use Prim.Native.Nat.{ℕ}
use mathlib.Core.List.{List}
use mathlib.Core.Path.{◌≡◌, refl}
use lib.ListN.{take}
use Rattle.values.specs.Value.{lane_count, kind_at, value, empty_value}
use Rattle.builtins.proofs.put_second.Goals as goal

none : (y : List ℕ) → value (kind_at 0) (take (lane_count (kind_at 0)) y) ≡ empty_value
unfolding value kind_at empty_value
none y = refl

pub returns-then-p-eq0 : goal.returns-then-p-eq0
returns-then-p-eq0 c = rw (c.if-p-eq0.true, none) c.clear.ensures
