-- What a test for what lies beside a range tells. Assumes nothing.
use Prim.Native.Nat.{ℕ, ◌≤◌, ◌<◌}
use mathlib.Core.Bool.{Bool, true, false, ◌||◌, false≢true}
use mathlib.Core.Path.{◌≡◌, refl, sym}
use borrow.Author.Tests.{ltb-false, leb-true, leb-false, le-ltb}
use lib.Dec.{leb, ltb}

module _ (a b m : ℕ) where
  pub beside : ltb m a || leb b m ≡ true → a ≤ m → b ≤ m
  beside t h = leb-true b m (rw (le-ltb m a h) at t)

  pub not_beside : ltb m a || leb b m ≡ false → (a ≤ m) × (m < b)
  not_beside t = let p = neither (ltb m a) (leb b m) t in (ltb-false m a p.0, leb-false b m p.1)
    where
      neither : (s t : Bool) → s || t ≡ false → (s ≡ false) × (t ≡ false)
      neither true t e = absurd (false≢true (sym e))
      neither false t e = (refl, e)
