-- What tests say, by cases, and what a test of each number says of two lists in a row, by induction on the first. Assumes nothing.
use Prim.Native.Nat.{ℕ}
use mathlib.Core.Bool.{Bool, true, false, ◌&&◌, not, cond, false≢true, and_assoc}
use mathlib.Core.List.{List, [], ◌∷◌, ◌++◌}
use mathlib.Core.Logic.{◌⊎◌, inl, inr}
use mathlib.Core.Path.{◌≡◌, refl, sym, ◌∙◌}
use borrow.Author.Tests.{not-true}
use Rattle.values.specs.Value.{every}

pub both : (a b : Bool) → a && b ≡ true → (a ≡ true) × (b ≡ true)
both true b t = (refl, t)
both false b t = absurd (false≢true t)

pub and : {a b : Bool} → a ≡ true → b ≡ true → a && b ≡ true
and s t = rw (s, t)

pub either : (t : Bool) → (t ≡ true) ⊎ (t ≡ false)
either true = inl refl
either false = inr refl

pub agree : (a b : Bool) → cond a b (not b) ≡ true → a ≡ b
agree true b t = sym t
agree false b t = sym (not-true b t)

-- two lists in a row
module _ (p : ℕ → Bool) where
  pub every_append : (xs ys : List ℕ) → every p (xs ++ ys) ≡ every p xs && every p ys
  every_append [] ys = refl
  every_append (x ∷ xs) ys = rw (every_append xs ys) (sym (and_assoc (p x) (every p xs) (every p ys)))

  pub every_both : (xs ys : List ℕ) → every p xs ≡ true → every p ys ≡ true → every p (xs ++ ys) ≡ true
  every_both xs ys s t = every_append xs ys ∙ and s t
