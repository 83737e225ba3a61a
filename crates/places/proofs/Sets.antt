-- The set of what passes a test has a type just where the type passes: bit by bit, each place halves the set. So a set written as a number is the set of a test
-- where the two numbers are equal, which is computed. Assumes nothing.
use Prim.Native.Nat.{ℕ, zero, suc, ◌+◌, ◌*◌, ◌/◌, ◌%◌, ◌^◌, ◌<◌}
use mathlib.Core.Bool.{Bool, true, false, cond}
use mathlib.Core.List.{List, [], ◌∷◌}
use mathlib.Core.Path.{◌≡◌, ap, sym, ◌∙◌}
use native.Mathlib.Nat.{div-div-eq-div-mul, pow-succ'}
use native.Mathlib.Omega.{arith}
use lib.Dec.{eqb}
use lib.ListN.{length, get_or}
use Rattle.values.specs.declared.Kind.{Kind}
use Rattle.values.specs.declared.Kind.TheVariants.{Empty}
use Rattle.values.specs.Value.{kinds, kind_at, place}
use Rattle.values.proofs.Places.{there}
use Rattle.places.specs.Program.{member, set_from, set_of}
use Rattle.places.proofs.Tables.{place_below}

lowest : (b : Bool) (m : ℕ) → member (cond b 1 0 + 2 * m) 0 ≡ b
lowest true m = let e : (1 + 2 * m) / 2 ^ 0 % 2 ≡ 1 = omega arith in ap (λ (x : ℕ). eqb x 1) e
lowest false m = let e : (0 + 2 * m) / 2 ^ 0 % 2 ≡ 0 = omega arith in ap (λ (x : ℕ). eqb x 1) e

halved : (b : Bool) (m i : ℕ) → (cond b 1 0 + 2 * m) / 2 ^ suc i ≡ m / 2 ^ i
halved b m i =
    ap (λ (d : ℕ). (cond b 1 0 + 2 * m) / d) (pow-succ' 2 i) ∙ sym (div-div-eq-div-mul (cond b 1 0 + 2 * m) 2 (2 ^ i))
    ∙ ap (λ (x : ℕ). x / 2 ^ i) (half b m)
  where
    half : (b : Bool) (m : ℕ) → (cond b 1 0 + 2 * m) / 2 ≡ m
    half true m = omega arith
    half false m = omega arith

bit : (f : Kind → Bool) (l : List Kind) (i : ℕ) → i < length l → member (set_from f l) i ≡ f (get_or l i Empty)
bit f [] i h = absurd (omega arith)
bit f (k ∷ ks) zero h = lowest (f k) (set_from f ks)
bit f (k ∷ ks) (suc i) h = ap (λ (x : ℕ). eqb (x % 2) 1) (halved (f k) (set_from f ks) i) ∙ bit f ks i (omega arith)

pub members : (f : Kind → Bool) (k : Kind) → member (set_of f) (place k) ≡ f k
unfolding set_of kind_at
members f k = bit f (Empty ∷ kinds) (place k) (place_below k) ∙ ap f (there k)
