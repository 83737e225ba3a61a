-- Equal bytes, and a thing found by its spelling. The search goes along the things; where each is guessed from its own spelling, the guess, tried, finds the same:
-- what the search finds would have been guessed. Assumes nothing.
use Prim.Native.Nat.{ℕ}
use mathlib.Core.Bool.{Bool, true, false, cond, false≢true}
use mathlib.Core.List.{List, [], ◌∷◌}
use mathlib.Core.Logic.{◌⊎◌, inl, inr, ⊎_elim}
use mathlib.Core.Path.{◌≡◌, refl, ap, sym, ◌∙◌}
use borrow.Author.Tests.{eq-eqb, eqb-true}
use lib.Dec.{eqb}
use lib.Pointwise.{pointwise}
use Rattle.values.proofs.Bools.{both}
use Rattle.buffers.specs.Text.{same_bytes, first_spelled}

-- ---- equal bytes

-- what == answers of two lists of numbers
pub same_pointwise : (a b : List ℕ) → pointwise eqb a b ≡ same_bytes a b
unfolding same_bytes
same_pointwise [] [] = refl
same_pointwise [] (y ∷ ys) = refl
same_pointwise (x ∷ xs) [] = refl
same_pointwise (x ∷ xs) (y ∷ ys) = rw (same_pointwise xs ys)

pub same_true : (a b : List ℕ) → same_bytes a b ≡ true → a ≡ b
unfolding same_bytes
same_true [] [] e = refl
same_true [] (y ∷ ys) e = absurd (false≢true e)
same_true (x ∷ xs) [] e = absurd (false≢true e)
same_true (x ∷ xs) (y ∷ ys) e =
    let h = both (eqb x y) (same_bytes xs ys) e in
    cc (eqb-true x y h.0, same_true xs ys h.1)

pub same_itself : (a : List ℕ) → same_bytes a a ≡ true
unfolding same_bytes
same_itself [] = refl
same_itself (x ∷ xs) = rw (eq-eqb x x refl) (same_itself xs)

pub same_false : (a b : List ℕ) → (a ≡ b → ⊥) → same_bytes a b ≡ false
same_false a b h = by (same_bytes a b) refl
  where
    by : (t : Bool) → same_bytes a b ≡ t → t ≡ false
    by true e = absurd (h (same_true a b e))
    by false e = refl

pub not_same : (a b : List ℕ) → same_bytes a b ≡ false → a ≡ b → ⊥
not_same a b t e = false≢true (sym t ∙ rw e (same_itself b))

-- ---- things and their spellings

module _ {A : Type 0} (spelling : A → List ℕ) (none : A) where
  first_by : (a r : A) (s : List ℕ) (t : Bool) → same_bytes (spelling a) s ≡ t
      → (r ≡ none) ⊎ (s ≡ spelling r) → (cond t a r ≡ none) ⊎ (s ≡ spelling (cond t a r))
  first_by a r s true e h = inr (sym (same_true (spelling a) s e))
  first_by a r s false e h = h

  -- what the search finds is spelled so
  pub found : (all : List A) (s : List ℕ) → (first_spelled spelling none all s ≡ none) ⊎ (s ≡ spelling (first_spelled spelling none all s))
  unfolding first_spelled
  found [] s = inl refl
  found (a ∷ rest) s = first_by a (first_spelled spelling none rest s) s (same_bytes (spelling a) s) refl (found rest s)

  -- a guess, tried
  module _ (all : List A) (guess : List ℕ → A) (own : (a : A) → first_spelled spelling none all (spelling a) ≡ a) (guessed : (a : A) → guess (spelling a) ≡ a) (s : List ℕ) where
    pub guess_right : same_bytes (spelling (guess s)) s ≡ true → guess s ≡ first_spelled spelling none all s
    guess_right t = sym (own (guess s)) ∙ ap (first_spelled spelling none all) (same_true (spelling (guess s)) s t)

    pub guess_wrong : same_bytes (spelling (guess s)) s ≡ false → none ≡ first_spelled spelling none all s
    guess_wrong t =
        let r = first_spelled spelling none all s in
        ⊎_elim (λ e. sym e)
        (λ e.
        let g : guess s ≡ r = ap guess e ∙ guessed r in
        absurd (not_same (spelling (guess s)) s t (ap spelling g ∙ sym e)))
        (found all s)
