-- A table is right by one test of all its entries. Assumes nothing.
use Prim.Native.Nat.{ℕ}
use mathlib.Core.Bool.{true}
use mathlib.Core.List.{List}
use mathlib.Core.Path.{◌≡◌}
use borrow.Author.Tests.{eqb-true}
use lib.Dec.{eqb}
use lib.ListN.{get_or}
use Rattle.values.proofs.Tested.{below, below_at}
use Rattle.spelling.specs.Hex.{Table}

-- a table, by one test of all its entries
pub tested : (f : ℕ → ℕ) (n : ℕ) (t : List ℕ) → below (λ x. eqb (get_or t x 0) (f x)) n ≡ true → Table f n t
tested f n t e = record { entry = λ x h. eqb-true (get_or t x 0) (f x) (below_at (λ y. eqb (get_or t y 0) (f y)) n x e h) }
