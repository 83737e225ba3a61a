-- The check of the lanes, one lane at a time: the first lane is below its limit, and the rest is checked with one lane less in use.
-- By cases on whether a lane is in use; `&&` is regrouped. Assumes nothing.
use Prim.Native.Nat.{ℕ, zero, suc, ◌+◌, ◌-◌, ◌<◌, ◌≤◌}
use mathlib.Core.Bool.{Bool, true, false, ◌&&◌, and_assoc, cond}
use mathlib.Core.List.{List, [], ◌∷◌}
use mathlib.Core.Path.{◌≡◌, refl, ap, sym, ◌∙◌}
use mathlib.Core.Logic.{⊎_elim}
use native.Mathlib.Numerals.{add-one}
use native.Mathlib.Omega.{arith}
use borrow.Author.Tests.{ltb-true, ltb-false, lt-ltb, le-ltb}
use lib.Dec.{ltb, eqb, eqb-suc-zero}
use lib.ListN.{length, take, drop, get_or}
use lib.Seq.{drop-cons, drop-length, drop-nil, take-nil}
use Rattle.values.specs.Value.{every}
use Rattle.values.proofs.Bools.{both, either}

-- the first n lanes are below the bound and the others 0
unfoldable pub checked : ℕ → ℕ → List ℕ → Bool
checked n bound l = every (λ x. ltb x bound) (take n l) && every (λ x. eqb x 0) (drop n l)

-- what a lane is below, where n lanes from it on are in use
abbrev pub limit : ℕ → ℕ → ℕ
limit n bound = cond (ltb 0 n) bound 1

zero_below_1 : (x : ℕ) → eqb x 0 ≡ ltb x 1
zero_below_1 zero = refl
zero_below_1 (suc x) = eqb-suc-zero x ∙ sym (le-ltb (suc x) 1 (omega arith))

pub first : (n bound x : ℕ) (xs : List ℕ) → checked n bound (x ∷ xs) ≡ ltb x (limit n bound) && checked (n - 1) bound xs
unfolding checked
first zero bound x xs = ap (λ (t : Bool). t && every (λ y. eqb y 0) xs) (zero_below_1 x)
first (suc n) bound x xs =
    let less : suc n - 1 ≡ n = omega arith in
    rw (lt-ltb 0 (suc n) (omega arith), less) (and_assoc (ltb x bound) (every (λ y. ltb y bound) (take n xs)) (every (λ y. eqb y 0) (drop n xs)))

module _ (l : List ℕ) (n bound i : ℕ) (inside : i < length l) where
  in_use : ltb 0 (n - i) ≡ ltb i n
  in_use =
      ⊎_elim (λ t. lt-ltb 0 (n - i) (omega (arith, ltb-true i n t)) ∙ sym t) (λ t. le-ltb 0 (n - i) (omega (arith, ltb-false i n t)) ∙ sym t)
      (either (ltb i n))

  limit_at : limit (n - i) bound ≡ cond (ltb i n) bound 1
  limit_at = ap (λ (t : Bool). cond t bound 1) in_use

  one_less : n - i - 1 ≡ n - (i + 1)
  one_less = omega arith

  next : checked (n - i) bound (drop i l) ≡ ltb (get_or l i 0) (cond (ltb i n) bound 1) && checked (n - (i + 1)) bound (drop (i + 1) l)
  next =
      ap (checked (n - i) bound) (drop-cons l i 0 inside) ∙ first (n - i) bound (get_or l i 0) (drop (suc i) l)
      ∙ cc (limit_at, add-one i, one_less)

  pub passed : get_or l i 0 < cond (ltb i n) bound 1 → checked (n - i) bound (drop i l) ≡ checked (n - (i + 1)) bound (drop (i + 1) l)
  passed t = next ∙ rw (lt-ltb _ _ t)

  pub failed : cond (ltb i n) bound 1 ≤ get_or l i 0 → checked (n - i) bound (drop i l) ≡ false
  failed t = next ∙ rw (le-ltb _ _ t)

pub done : (l : List ℕ) (n bound i : ℕ) → i ≡ length l → checked (n - i) bound (drop i l) ≡ true
unfolding checked
done l n bound i e = rw (e, drop-length, take-nil, drop-nil)

-- each lane of checked lanes is below the bound, in use or not
pub below : (n bound : ℕ) (l : List ℕ) (i : ℕ) → 0 < bound → checked n bound l ≡ true → get_or l i 0 < bound
below n bound [] i b t = b
below n bound (x ∷ xs) zero b t =
    let h : x < limit n bound = ltb-true x (limit n bound) (both (ltb x (limit n bound)) (checked (n - 1) bound xs) (sym (first n bound x xs) ∙ t)).0 in
    ⊎_elim (λ u. omega (arith, rw u at h)) (λ u. omega (arith, rw u at h)) (either (ltb 0 n))
below n bound (x ∷ xs) (suc i) b t = below (n - 1) bound xs i b (both (ltb x (limit n bound)) (checked (n - 1) bound xs) (sym (first n bound x xs) ∙ t)).1
