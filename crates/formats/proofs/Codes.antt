-- Lanes of w bits in a word: codes joined have themselves as parts, and what holds of each code holds of the lanes. By induction on the number of lanes. Assumes nothing.
use Prim.Native.Nat.{ℕ, zero, suc, ◌+◌, ◌*◌, ◌/◌, ◌%◌, ◌^◌, ◌<◌, ◌≤◌}
use mathlib.Core.Bool.{true}
use mathlib.Core.List.{List, [], ◌∷◌, map}
use mathlib.Core.Path.{◌≡◌, refl, ap, ◌∙◌}
use native.Mathlib.Nat.{zero-add, mul-zero, zero-div, zero-mod, mod-lt}
use native.Mathlib.Omega.{arith}
use borrow.Author.Tests.{lt-ltb}
use lib.Dec.{ltb}
use lib.ListN.{length}
use lib.Pow.{pow_pos}
use Rattle.values.specs.Value.{every}
use Rattle.values.proofs.Bools.{and}
use Rattle.numeric.specs.Parts.{parts, joined}
use Rattle.builtins.proofs.Parts.{lowest, others}

-- of lanes that f sends to codes of w bits
pub parts_joined : (w : ℕ) (f : ℕ → ℕ) → ((x : ℕ) → f x < 2 ^ w) → (xs : List ℕ) → parts w (length xs) (joined w (map f xs)) ≡ map f xs
parts_joined w f b [] = refl
parts_joined w f b (x ∷ xs) =
    let y = joined w (map f xs) in
    rw (lowest w y (b x), others w y (b x)) (ap (◌∷◌ (f x)) (parts_joined w f b xs))

-- codes that g keeps, and 0 above them
pub kept_joined : (w : ℕ) (f g : ℕ → ℕ) → ((x : ℕ) → f x < 2 ^ w) → ((x : ℕ) → g (f x) ≡ f x) → g 0 ≡ 0 → (n : ℕ) (xs : List ℕ) → length xs ≤ n
    → joined w (map g (parts w n (joined w (map f xs)))) ≡ joined w (map f xs)
kept_joined w f g b k z zero [] h = refl
kept_joined w f g b k z zero (x ∷ xs) h = absurd (omega arith)
kept_joined w f g b k z (suc n) [] h = rw (zero-mod (2 ^ w), zero-div (2 ^ w), z, kept_joined w f g b k z n [] (omega arith)) (zero-add (2 ^ w * 0) ∙ mul-zero (2 ^ w))
kept_joined w f g b k z (suc n) (x ∷ xs) h =
    let y = joined w (map f xs) in
    rw (lowest w y (b x), others w y (b x), k x) (ap (λ (u : ℕ). f x + 2 ^ w * u) (kept_joined w f g b k z n xs (omega arith)))

-- two functions that agree on the codes of w bits
pub parts_alike : (w : ℕ) (f g : ℕ → ℕ) → ((c : ℕ) → c < 2 ^ w → f c ≡ g c) → (n x : ℕ) → map f (parts w n x) ≡ map g (parts w n x)
parts_alike w f g h zero x = refl
parts_alike w f g h (suc n) x = cc (h (x % 2 ^ w) (mod-lt x (pow_pos w)), parts_alike w f g h n (x / 2 ^ w))

pub parts_below : (w b : ℕ) (f : ℕ → ℕ) → ((c : ℕ) → c < 2 ^ w → f c < b) → (n x : ℕ) → every (λ y. ltb y b) (map f (parts w n x)) ≡ true
parts_below w b f h zero x = refl
parts_below w b f h (suc n) x = and (lt-ltb (f (x % 2 ^ w)) b (h (x % 2 ^ w) (mod-lt x (pow_pos w)))) (parts_below w b f h n (x / 2 ^ w))
