-- Where a byte stands first, by induction on the bytes. To pass one place more is one test more, so four places are passed by four tests, and eight by twice that. Assumes nothing.
use Prim.Native.Nat.{ℕ, zero, suc, ◌+◌, ◌<◌, ◌≤◌}
use mathlib.Core.List.{List, [], ◌∷◌, ◌++◌}
use mathlib.Core.Bool.{Bool, true, false, not, cond, ◌&&◌, and-false}
use mathlib.Core.Logic.{inl, inr}
use mathlib.Core.Path.{◌≡◌, refl, ap, sym, ◌∙◌}
use native.Mathlib.Numerals.{add-one}
use native.Mathlib.Nat.{zero-add}
use native.Mathlib.Omega.{arith}
use lib.ListN.{length, take, drop, get_or, length-drop}
use lib.Seq.{get_or-drop, drop-drop}
use lib.Dec.{leb, eqb, leb-zero, leb-suc-zero, leb-suc-suc}
use borrow.Author.Tests.{eqb-true, eq-eqb, ne_eqb, le-leb, lt-leb, leb-true, leb-false, not-true}
use Rattle.values.specs.Value.{every}
use Rattle.values.proofs.Bools.{both, either}
use Rattle.buffers.specs.Text.{place_of}

module _ (b : ℕ) where
  pub place_le : (s : List ℕ) → place_of b s ≤ length s
  unfolding place_of
  place_le [] = omega arith
  place_le (x ∷ xs) = by (eqb x b) (place_le xs)
    where
      by : (t : Bool) → place_of b xs ≤ length xs → cond t 0 (suc (place_of b xs)) ≤ suc (length xs)
      by true h = omega arith
      by false h = omega arith

  -- b is not among the first i bytes and the next where it is not among the first i and the next is another
  pub place_more : (s : List ℕ) (i : ℕ) → i < length s → leb (suc i) (place_of b s) ≡ leb i (place_of b s) && not (eqb (get_or s i 0) b)
  unfolding place_of
  place_more [] i h = absurd (omega arith)
  place_more (x ∷ xs) zero h = by (eqb x b)
    where
      by : (t : Bool) → leb 1 (cond t 0 (suc (place_of b xs))) ≡ leb 0 (cond t 0 (suc (place_of b xs))) && not t
      by true = refl
      by false = rw (leb-suc-suc 0 (place_of b xs), leb-zero (place_of b xs), leb-zero (suc (place_of b xs)))
  place_more (x ∷ xs) (suc i) h = by (eqb x b) (place_more xs i (omega arith))
    where
      by : (t : Bool) → leb (suc i) (place_of b xs) ≡ leb i (place_of b xs) && not (eqb (get_or xs i 0) b)
          → leb (suc (suc i)) (cond t 0 (suc (place_of b xs))) ≡ leb (suc i) (cond t 0 (suc (place_of b xs))) && not (eqb (get_or xs i 0) b)
      by true ih = rw (leb-suc-zero (suc i), leb-suc-zero i)
      by false ih = rw (leb-suc-suc (suc i) (place_of b xs), leb-suc-suc i (place_of b xs)) ih

  -- one byte more from i on: no b among them
  pub place_from_lem : (s : List ℕ) (i n : ℕ) → i + n < length s → leb (suc n) (place_of b (drop i s)) ≡ leb n (place_of b (drop i s)) && not (eqb (get_or s (i + n) 0) b)
  place_from_lem s i n h = rw (← (get_or-drop i s n 0)) (place_more (drop i s) n (omega (arith, length-drop i s)))

  -- where b is not before i, the first b from i on is the first of all
  pub place_drop : (s : List ℕ) (i : ℕ) → i ≤ place_of b s → place_of b s ≡ i + place_of b (drop i s)
  unfolding place_of
  place_drop s zero h = rw zero-add
  place_drop [] (suc i) h = absurd (omega arith)
  place_drop (x ∷ xs) (suc i) h = by (eqb x b) h (place_drop xs i)
    where
      by : (t : Bool) → suc i ≤ cond t 0 (suc (place_of b xs)) → (i ≤ place_of b xs → place_of b xs ≡ i + place_of b (drop i xs))
          → cond t 0 (suc (place_of b xs)) ≡ suc i + place_of b (drop i xs)
      by true k ih = absurd (omega arith)
      by false k ih = omega (arith, ih (omega arith))

  -- b at i is no further than i
  pub place_hit : (s : List ℕ) (i : ℕ) → i < length s → get_or s i 0 ≡ b → place_of b s ≤ i
  place_hit s i h e = omega (arith, leb-false (suc i) (place_of b s) (place_more s i h ∙ rw (eq-eqb _ _ e) (and-false (leb i (place_of b s)))))

  -- b neither before i nor at i is further than i
  pub place_miss : (s : List ℕ) (i : ℕ) → i < length s → i ≤ place_of b s → (get_or s i 0 ≡ b → ⊥) → i < place_of b s
  place_miss s i h k e = leb-true (suc i) (place_of b s) (place_more s i h ∙ rw (le-leb i (place_of b s) k, ne_eqb _ _ e))

  -- the first of the n places from i + k on that holds b, or `rest`; each is looked at once
  abbrev pub first_of : List ℕ → ℕ → ℕ → ℕ → ℕ → ℕ
  first_of s i k zero rest = rest
  first_of s i k (suc n) rest = cond (eqb (get_or s (i + k) 0) b) (i + k) (first_of s i (suc k) n rest)

  pub place_of_lem : (s : List ℕ) (i k n rest : ℕ) → i + k + n ≤ length s → k ≤ place_of b (drop i s)
      → first_of s i k n rest ≡ cond (leb (k + n) (place_of b (drop i s))) rest (i + place_of b (drop i s))
  place_of_lem s i k zero rest h low = rw (le-leb (k + 0) (place_of b (drop i s)) (omega arith))
  place_of_lem s i k (suc n) rest h low =
      let e : k + suc n ≡ suc k + n = omega arith in
      rw e (by (eqb (get_or s (i + k) 0) b) (place_from_lem s i k (omega arith)) (λ more. place_of_lem s i (suc k) n rest (omega arith) more))
    where
      by : (t : Bool) → leb (suc k) (place_of b (drop i s)) ≡ leb k (place_of b (drop i s)) && not t
          → (suc k ≤ place_of b (drop i s) → first_of s i (suc k) n rest ≡ cond (leb (suc k + n) (place_of b (drop i s))) rest (i + place_of b (drop i s)))
          → cond t (i + k) (first_of s i (suc k) n rest) ≡ cond (leb (suc k + n) (place_of b (drop i s))) rest (i + place_of b (drop i s))
      by true e ih =
          let p = place_of b (drop i s) in
          let l : p < suc k = leb-false (suc k) p (e ∙ and-false (leb k p)) in
          rw (lt-leb (suc k + n) p (omega arith)) (omega arith)
      by false e ih = ih (leb-true (suc k) _ (e ∙ rw (le-leb k _ low)))

  four_more : (n : ℕ) → leb 4 n ≡ leb 8 (4 + n)
  four_more n =
      elim (either (leb 4 n)) [
        | inl t ↦ rw (t, le-leb 8 (4 + n) (omega (arith, leb-true 4 n t)))
        | inr t ↦ rw (t, lt-leb 8 (4 + n) (omega (arith, leb-false 4 n t)))
      ]

  -- b is not among eight places where it is among neither four of them
  pub none_eight : (s : List ℕ) (i : ℕ) → leb 4 (place_of b (drop i s)) && leb 4 (place_of b (drop (i + 4) s)) ≡ leb 8 (place_of b (drop i s))
  none_eight s i = rw (← (drop-drop 4 i s)) (by (leb 4 (place_of b (drop i s))) refl)
    where
      by : (t : Bool) → leb 4 (place_of b (drop i s)) ≡ t → t && leb 4 (place_of b (drop 4 (drop i s))) ≡ leb 8 (place_of b (drop i s))
      by true e = rw (place_drop (drop i s) 4 (leb-true 4 (place_of b (drop i s)) e)) (four_more (place_of b (drop 4 (drop i s))))
      by false e = sym (lt-leb 8 (place_of b (drop i s)) (omega (arith, leb-false 4 (place_of b (drop i s)) e)))

  -- the first of four places, or else of the four behind them, where b is among the eight
  pub first_eight : (s : List ℕ) (i : ℕ) → place_of b (drop i s) < 8
      → cond (leb 4 (place_of b (drop i s))) (cond (leb 4 (place_of b (drop (i + 4) s))) (i + 7) (i + 4 + place_of b (drop (i + 4) s))) (i + place_of b (drop i s)) ≡ i + place_of b (drop i s)
  first_eight s i h = rw (← (drop-drop 4 i s)) (by (leb 4 (place_of b (drop i s))) refl)
    where
      by : (t : Bool) → leb 4 (place_of b (drop i s)) ≡ t
          → cond t (cond (leb 4 (place_of b (drop 4 (drop i s)))) (i + 7) (i + 4 + place_of b (drop 4 (drop i s)))) (i + place_of b (drop i s)) ≡ i + place_of b (drop i s)
      by true e =
          let d = place_drop (drop i s) 4 (leb-true 4 (place_of b (drop i s)) e) in
          rw (lt-leb 4 (place_of b (drop 4 (drop i s))) (omega arith)) (omega arith)
      by false e = refl

  -- s is what stands before b, b, and what follows it
  pub place_split : (s : List ℕ) → place_of b s < length s → s ≡ take (place_of b s) s ++ (b ∷ drop (place_of b s + 1) s)
  unfolding place_of
  place_split [] h = absurd (omega arith)
  place_split (x ∷ xs) h = by (eqb x b) refl (place_split xs) h
    where
      by : (t : Bool) → eqb x b ≡ t → (place_of b xs < length xs → xs ≡ take (place_of b xs) xs ++ (b ∷ drop (place_of b xs + 1) xs))
          → cond t 0 (suc (place_of b xs)) < suc (length xs)
          → x ∷ xs ≡ take (cond t 0 (suc (place_of b xs))) (x ∷ xs) ++ (b ∷ drop (cond t 0 (suc (place_of b xs)) + 1) (x ∷ xs))
      by true e ih k = ap (λ (y : ℕ). y ∷ xs) (eqb-true x b e)
      by false e ih k = rw (add-one (suc (place_of b xs))) (ap (λ (l : List ℕ). x ∷ l) (rw add-one at (ih (omega arith))))

  -- whether all bytes are others than b
  abbrev pub without : List ℕ → Bool
  without a = every (λ x. not (eqb x b)) a

  -- then the first b is past them, and where b follows, right behind them
  pub place_past : (l m : List ℕ) → without l ≡ true → length l ≤ place_of b (l ++ m)
  unfolding place_of
  place_past [] m t = omega arith
  place_past (x ∷ l) m t = let h = both (not (eqb x b)) (without l) t in rw (not-true (eqb x b) h.0) (omega (arith, place_past l m h.1))

  pub place_after : (a r : List ℕ) → without a ≡ true → place_of b (a ++ (b ∷ r)) ≡ length a
  unfolding place_of
  place_after [] r t = rw (eq-eqb b b refl)
  place_after (x ∷ a) r t =
      let h = both (not (eqb x b)) (without a) t in
      rw (not-true (eqb x b) h.0) (ap suc (place_after a r h.1))
