-- What a test says of every number below a bound, where it is computed for all of them at once. Assumes nothing.
use Prim.Native.Nat.{ℕ, zero, suc, ◌<◌, ◌≤◌}
use mathlib.Core.Bool.{Bool, true, false, ◌&&◌}
use mathlib.Core.Path.{◌≡◌, refl, ap, ◌∙◌}
use native.Mathlib.Omega.{arith}
use borrow.Author.Tests.{ltb-true, ltb-false}
use lib.Dec.{ltb}
use Rattle.values.proofs.Bools.{both}

-- whether p holds of each number below n
unfoldable pub below : (ℕ → Bool) → ℕ → Bool
below p zero = true
below p (suc n) = p n && below p n

pub below_at : (p : ℕ → Bool) (n i : ℕ) → below p n ≡ true → i < n → p i ≡ true
unfolding below
below_at p zero i e h = absurd (omega arith)
below_at p (suc n) i e h = by (ltb i n) refl (both (p n) (below p n) e).0 (below_at p n i (both (p n) (below p n) e).1)
  where
    last : (n ≤ i) → i ≡ n
    last g = omega arith

    by : (t : Bool) → ltb i n ≡ t → p n ≡ true → (i < n → p i ≡ true) → p i ≡ true
    by true e a earlier = earlier (ltb-true i n e)
    by false e a earlier = ap p (last (ltb-false i n e)) ∙ a
