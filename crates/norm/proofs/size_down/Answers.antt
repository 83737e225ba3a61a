-- `norm::size_down` meets its contract: below 65536 the digits before the point of its bits are the float rounded down, and from there on it is at the cap. Assumes
-- nothing.
use mathlib.Core.Path.{sym, ap, ◌∙◌, subst}
use Prim.Native.Nat.{ℕ, ◌/◌, ◌^◌}
use lib.Dec.{T}
use lib.Ieee.{of_bits}
use Rattle.half.specs.Format.{f32, magnitude, units}
use Rattle.norm.proofs.Sizes.{Pointed, pointed, capped}
use Rattle.norm.proofs.size_down.Goals as goal
use Rattle.norm.proofs.size_down.Goals.{Then-v}

below : (c : Then-v) → Pointed c.args.v
unfolding of_bits
below c = pointed c.args.v c.requires.1 c.requires.0 (subst T (sym c.if-v.true) tt)

pub whole_part-requires : goal.whole_part-requires
whole_part-requires c = rw c.bits_of.ensures (below (goal.at.whole_part-requires c).Then-v).small

pub returns-then-v : goal.returns-then-v
returns-then-v c = c.whole_part.ensures ∙ ap (λ (n : ℕ). units f32 (magnitude f32 n) / 2 ^ 149) c.bits_of.ensures ∙ (below (goal.at.returns-then-v c).Then-v).same

pub returns-else-v : goal.returns-else-v
unfolding of_bits
returns-else-v c = capped c.args.v c.requires.0 c.if-v.false
