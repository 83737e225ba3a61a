-- A number and its parts of w bits: parts joined are the number, and of a joined number the lowest part and the others can be told apart. By induction on the number of parts. Assumes nothing.
use Prim.Native.Nat.{ℕ, zero, suc, ◌+◌, ◌*◌, ◌/◌, ◌%◌, ◌^◌, ◌<◌}
use mathlib.Core.Path.{◌≡◌, refl, ap, ◌∙◌, subst}
use native.Mathlib.Nat.{add_comm, mul_comm, zero-mul, suc-mul, mod-add-div}
use native.Mathlib.Omega.{arith}
use lib.ListN.{length}
use lib.Pow.{shr_lt, high, low}
use Rattle.numeric.specs.Parts.{parts, joined}

pub joined_parts : (w n x : ℕ) → x < 2 ^ (n * w) → joined w (parts w n x) ≡ x
joined_parts w zero x h = none x (subst (λ (k : ℕ). x < 2 ^ k) (zero-mul w) h)
  where
    none : (x : ℕ) → x < 1 → 0 ≡ x
    none x h = omega arith
joined_parts w (suc n) x h =
    ap (λ (y : ℕ). x % 2 ^ w + 2 ^ w * y) (joined_parts w n (x / 2 ^ w) (shr_lt (n * w) w (subst (λ (k : ℕ). x < 2 ^ k) (suc-mul n w) h)))
    ∙ mod-add-div x (2 ^ w)

-- the lowest part, and the others
module _ (w : ℕ) {c : ℕ} (y : ℕ) (h : c < 2 ^ w) where
  swapped : c + 2 ^ w * y ≡ y * 2 ^ w + c
  swapped = add_comm c (2 ^ w * y) ∙ ap (λ (z : ℕ). z + c) (mul_comm (2 ^ w) y)

  pub lowest : (c + 2 ^ w * y) % 2 ^ w ≡ c
  lowest = ap (λ (z : ℕ). z % 2 ^ w) swapped ∙ low y w h

  pub others : (c + 2 ^ w * y) / 2 ^ w ≡ y
  others = ap (λ (z : ℕ). z / 2 ^ w) swapped ∙ high y w h

pub length_parts : (w n x : ℕ) → length (parts w n x) ≡ n
length_parts w zero x = refl
length_parts w (suc n) x = ap suc (length_parts w n (x / 2 ^ w))
