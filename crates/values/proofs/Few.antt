-- Lanes read one after another are the part of the list that they stand in, tests joined to the left are the tests of their list, and four lanes that are
-- looked at with the others 0 are the check of them all. Assumes nothing.
use Prim.Native.Nat.{ℕ, zero, suc, ◌+◌, ◌-◌, ◌≤◌}
use mathlib.Core.Bool.{Bool, cond, ◌&&◌, and_assoc, and-true}
use mathlib.Core.List.{List, [], ◌∷◌}
use mathlib.Core.Path.{◌≡◌, refl, ap, sym, ◌∙◌}
use native.Mathlib.Omega.{arith}
use lib.Dec.{eqb, ltb}
use lib.ListN.{length, take, drop, get_or}
use lib.Seq.{drop-cons}
use Rattle.values.specs.Value.{every}
use Rattle.values.proofs.Checked.{checked, first}

-- n entries from place at + k on
abbrev pub entries : List ℕ → (at k n : ℕ) → List ℕ
entries l at k zero = []
entries l at k (suc n) = get_or l (at + k) 0 ∷ entries l at (suc k) n

pub entries_are : (l : List ℕ) (at k n : ℕ) → at + k + n ≤ length l → entries l at k n ≡ take n (drop (at + k) l)
entries_are l at k zero h = refl
entries_are l at k (suc n) h =
    let e : at + suc k ≡ suc (at + k) = omega arith in
    rw (drop-cons l (at + k) 0 (omega arith))
    (ap (λ (m : List ℕ). get_or l (at + k) 0 ∷ m) (entries_are l at (suc k) n (omega (arith, e)) ∙ ap (λ (m : ℕ). take n (drop m l)) e))

-- a test of each number, after b
abbrev joined_to : Bool → (ℕ → Bool) → List ℕ → Bool
joined_to b f [] = b
joined_to b f (x ∷ xs) = joined_to (b && f x) f xs

pub joined : (b : Bool) (f : ℕ → Bool) (l : List ℕ) → joined_to b f l ≡ b && every f l
joined b f [] = sym (and-true b)
joined b f (x ∷ xs) = joined (b && f x) f xs ∙ and_assoc b (f x) (every f xs)

-- four lanes of which n are in use
abbrev four_ok : (n b x y z u : ℕ) → Bool
four_ok n b x y z u = ltb x (cond (ltb 0 n) b 1) && ltb y (cond (ltb 1 n) b 1) && ltb z (cond (ltb 2 n) b 1) && ltb u (cond (ltb 3 n) b 1)

firsts : (n b x y z u : ℕ) (r : List ℕ) → checked n b (x ∷ y ∷ z ∷ u ∷ r)
    ≡ ltb x (cond (ltb 0 n) b 1) && (ltb y (cond (ltb 0 (n - 1)) b 1) && (ltb z (cond (ltb 0 (n - 1 - 1)) b 1) && (ltb u (cond (ltb 0 (n - 1 - 1 - 1)) b 1) && checked (n - 1 - 1 - 1 - 1) b r)))
firsts n b x y z u r =
    rw (first n b x (y ∷ z ∷ u ∷ r), first (n - 1) b y (z ∷ u ∷ r), first (n - 1 - 1) b z (u ∷ r), first (n - 1 - 1 - 1) b u r)

four_checked : (n b x y z u : ℕ) (r : List ℕ) → n ≤ 4 → checked n b (x ∷ y ∷ z ∷ u ∷ r) ≡ four_ok n b x y z u && every (λ v. eqb v 0) r
unfolding checked
four_checked zero b x y z u r h = firsts 0 b x y z u r ∙ simp and_assoc
four_checked (suc zero) b x y z u r h = firsts 1 b x y z u r ∙ simp and_assoc
four_checked (suc (suc zero)) b x y z u r h = firsts 2 b x y z u r ∙ simp and_assoc
four_checked (suc (suc (suc zero))) b x y z u r h = firsts 3 b x y z u r ∙ simp and_assoc
four_checked (suc (suc (suc (suc zero)))) b x y z u r h = firsts 4 b x y z u r ∙ simp and_assoc
four_checked (suc (suc (suc (suc (suc n))))) b x y z u r h = absurd (omega arith)

pub few : (l : List ℕ) (n b : ℕ) → 4 ≤ length l → n ≤ 4
    → four_ok n b (get_or l 0 0) (get_or l 1 0) (get_or l 2 0) (get_or l 3 0) && every (λ x. eqb x 0) (drop 4 l) ≡ checked n b l
few (x ∷ y ∷ z ∷ u ∷ r) n b h s = sym (four_checked n b x y z u r s)
few [] n b h s = absurd (omega arith)
few (x ∷ []) n b h s = absurd (omega arith)
few (x ∷ y ∷ []) n b h s = absurd (omega arith)
few (x ∷ y ∷ z ∷ []) n b h s = absurd (omega arith)
