-- A table of lanes is right by one test of all its entries. Assumes nothing.
use Prim.Native.Nat.{ℕ}
use mathlib.Core.Bool.{Bool, true}
use mathlib.Core.List.{List}
use mathlib.Core.Path.{◌≡◌}
use borrow.Author.Tests.{eqb-true}
use lib.Dec.{eqb}
use lib.ListN.{get_or}
use Rattle.values.proofs.Tested.{below, below_at}
use Rattle.norm.specs.Norm.{unpacked_norm}
use Rattle.tables.specs.Tables.{Lanes}

pub all_unpacked : (g : Bool) (l : List ℕ) → below (λ c. eqb (get_or l c 0) (unpacked_norm g 8 c)) 256 ≡ true → Lanes g l
all_unpacked g l e = record { entry = λ c h. eqb-true (get_or l c 0) (unpacked_norm g 8 c) (below_at (λ c. eqb (get_or l c 0) (unpacked_norm g 8 c)) 256 c e h) }
