-- Four lanes, each as it is, are the array. By writing them out. Assumes nothing.
use Prim.Native.Nat.{ℕ}
use mathlib.Core.Path.{◌≡◌, refl}
use mathlib.Core.List.{List, [], ◌∷◌}
use native.Mathlib.Omega.{arith}
use lib.ListN.{length}
use Rattle.values.specs.Program.{four}

pub unchanged : (l : List ℕ) → length l ≡ 4 → l ≡ four (λ x. x) l
unchanged (a ∷ b ∷ c ∷ d ∷ []) h = refl
unchanged [] h = absurd (omega arith)
unchanged (a ∷ []) h = absurd (omega arith)
unchanged (a ∷ b ∷ []) h = absurd (omega arith)
unchanged (a ∷ b ∷ c ∷ []) h = absurd (omega arith)
unchanged (a ∷ b ∷ c ∷ d ∷ e ∷ r) h = absurd (omega arith)
