-- The test of each of the first i + 1 numbers is that of the first i, and of the next. Assumes nothing.
use Prim.Native.Nat.{ℕ, ◌+◌, ◌<◌}
use mathlib.Core.Bool.{Bool, ◌&&◌, and-true}
use mathlib.Core.List.{List, [], ◌∷◌}
use mathlib.Core.Path.{◌≡◌, ap, ◌∙◌}
use lib.ListN.{length, take, get_or}
use Rattle.std.proofs.lemmas.List.{take_more}
use Rattle.values.specs.Value.{every}
use Rattle.values.proofs.Bools.{every_append}

pub every_more : (p : ℕ → Bool) (xs : List ℕ) (i : ℕ) → i < length xs → every p (take (i + 1) xs) ≡ every p (take i xs) && p (get_or xs i 0)
every_more p xs i h =
    ap (every p) (take_more xs i 0 h) ∙ every_append p (take i xs) (get_or xs i 0 ∷ [])
    ∙ ap (λ b. every p (take i xs) && b) (and-true (p (get_or xs i 0)))
