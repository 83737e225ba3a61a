-- The order of floats is one of whole numbers: the float of an f32 pattern, or of a half, that is no NaN compares as `rank`, the pattern's place in
-- the numeric order, does. Two finite floats compare as their sizes in units, sizes as magnitudes, an infinity stands above every finite size, and
-- the signs are cases. Between f32 and half the ranks' order is kept both ways, by conversion and the way back. Assumes nothing.
use mathlib.Core.Path.{◌≡◌, refl, sym, ap, ◌∙◌, subst}
use mathlib.Core.Logic.{inl, inr}
use mathlib.Core.Bool.{Bool, true, false, not, ◌&&◌, ◌||◌, beq, cond, and-true, and-false}
use Prim.Native.Nat.{ℕ, zero, suc, ◌+◌, ◌-◌, ◌*◌, ◌/◌, ◌%◌, ◌^◌, ◌≤◌, ◌<◌}
use native.Mathlib.Nat.{le_trans, le_antisymm, not-le_of_lt, lt_of_not-le, eq-or-lt_of_le, le_of_eq, mod-lt, mul_assoc, mul_right_comm, mul_comm, mul-pos, mul-lt-mul_of_pos_right, lt_of_mul-lt-mul_right, lt_of_lt_of_le, lt_of_le_of_lt, eq_of_mul-eq-mul_right, zero-mul, zero-add}
use native.Mathlib.Omega.{arith}
use borrow.Author.Tests.{lt-ltb, le-ltb, le-leb, lt-leb, eq-eqb, ne_eqb, eqb-true, eqb-false}
use lib.Dec.{T, lit<, ltb, leb, eqb, eqb-zero-suc, eqb-suc-zero}
use lib.Pow.{pow_pos}
use lib.Ieee.{Float, nan, inf, fin, binary32, up, down, below, level, lt, le, eq, ne, is_nan, of_bits}
use lib.Ieee.Compare.{differs_from_itself}
use lib.Ieee.Bits.{is_false}
use lib.Ieee.Fits.{down_pos}
use lib.Ieee.Exact.{HasValue}
use Rattle.half.specs.Format as format
use Rattle.half.specs.Format.{f16, f32, top, infinity, magnitude, negative, units, rank}
use Rattle.half.specs.Convert.{single_of}
use Rattle.half.proofs.Closest.{split}
use Rattle.half.proofs.Sizes.{units_lt, units_small}
use Rattle.half.proofs.Signs.{number}
use Rattle.half.proofs.Conversion.{number_kept}
use Rattle.half.proofs.Monotone.{rank_mono}
use Rattle.half.proofs.Single.{half_back}
use Rattle.half.proofs.Library.{bits_value}
use Rattle.floats.proofs.Nan.{same_as_itself}

-- a float differs from itself where it is the NaN
pub differs_is : (x : Float) → ne x x ≡ is_nan x
differs_is x = go (ne x x) refl
  where
    go : (b : Bool) → ne x x ≡ b → b ≡ is_nan x
    go true e = unfold is_nan in sym (ap is_nan (differs_from_itself x (subst T (sym e) tt)))
    go false e = sym (is_false (is_nan x) (same_as_itself x e))

-- ---- two pairs of numbers that every test tells alike
pub record Alike (a b c d : ℕ) : Type 0 where
  pub less : ltb a b ≡ ltb c d
  pub most : leb a b ≡ leb c d
  pub same : eqb a b ≡ eqb c d

pub alike : (a b c d : ℕ) → (a < b → c < d) → (a ≡ b → c ≡ d) → (b < a → d < c) → Alike a b c d
alike a b c d l e g =
    elim (split a b) [
      | inl h ↦ below_both h (l h)
      | inr h ↦ elim (eq-or-lt_of_le h) [ inl i ↦ equal_both (sym i) (e (sym i)) | inr i ↦ above_both i (g i) ]
    ]
  where
    below_both : a < b → c < d → Alike a b c d
    below_both h k = record {
      less = lt-ltb a b h ∙ sym (lt-ltb c d k);
      most = le-leb a b (omega arith) ∙ sym (le-leb c d (omega arith));
      same = ne_eqb a b (λ (i : a ≡ b). omega arith) ∙ sym (ne_eqb c d (λ (i : c ≡ d). omega arith));
    }

    equal_both : a ≡ b → c ≡ d → Alike a b c d
    equal_both h k = record {
      less = le-ltb a b (omega arith) ∙ sym (le-ltb c d (omega arith));
      most = le-leb a b (omega arith) ∙ sym (le-leb c d (omega arith));
      same = eq-eqb a b h ∙ sym (eq-eqb c d k);
    }

    above_both : b < a → d < c → Alike a b c d
    above_both h k = record {
      less = le-ltb a b (omega arith) ∙ sym (le-ltb c d (omega arith));
      most = lt-leb a b h ∙ sym (lt-leb c d k);
      same = ne_eqb a b (λ (i : a ≡ b). omega arith) ∙ sym (ne_eqb c d (λ (i : c ≡ d). omega arith));
    }

-- at most is below or equal
pub at_most : (a b : ℕ) → (ltb a b || eqb a b) ≡ leb a b
at_most a b =
    elim (split a b) [
      | inl h ↦ rw (lt-ltb a b h) (sym (le-leb a b (omega arith)))
      | inr h ↦
          elim (eq-or-lt_of_le h) [
            | inl e ↦ rw (le-ltb a b h, eq-eqb a b (sym e)) (sym (le-leb a b (omega arith)))
            | inr g ↦ rw (le-ltb a b h, ne_eqb a b (λ (e : a ≡ b). omega arith)) (sym (lt-leb a b g))
          ]
    ]

equal_alike : (a b c d : ℕ) → (a ≡ b → c ≡ d) → (c ≡ d → a ≡ b) → eqb a b ≡ eqb c d
equal_alike a b c d p q = go (eqb a b) refl
  where
    go : (t : Bool) → eqb a b ≡ t → t ≡ eqb c d
    go true e = sym (eq-eqb c d (p (eqb-true a b e)))
    go false e = sym (ne_eqb c d (λ (k : c ≡ d). eqb-false a b e (q k)))

-- ---- the size of a float that is no NaN, as an f32's magnitude
abbrev Sized : Float → ℕ → Type 0
Sized nan m = ⊥
Sized (inf s) m = m ≡ infinity f32
Sized (fin s n e) m = (m < infinity f32) × (n * up e * 2 ^ 149 ≡ units f32 m * down e)

abbrev sign : Float → Bool
sign nan = false
sign (inf s) = s
sign (fin s n e) = s

-- the numbers that lt and eq compare, over a denominator D that two floats have in common
module _ (D : ℕ) (P : 0 < D) where
  over : (a m b k : ℕ) → a * 2 ^ 149 ≡ units f32 m * D → b * 2 ^ 149 ≡ units f32 k * D → Alike m k a b
  over a m b k p q =
      alike m k a b
      (λ (h : m < k). rise a m b k p q h)
      (λ (h : m ≡ k). eq_of_mul-eq-mul_right (2 ^ 149) (pow_pos 149) a b (p ∙ ap (λ (x : ℕ). units f32 x * D) h ∙ sym q))
      (λ (h : k < m). rise b k a m q p h)
    where
      rise : (a m b k : ℕ) → a * 2 ^ 149 ≡ units f32 m * D → b * 2 ^ 149 ≡ units f32 k * D → m < k → a < b
      rise a m b k p q h = lt_of_mul-lt-mul_right (2 ^ 149) (lt_of_le_of_lt (le_of_eq p) (lt_of_lt_of_le (mul-lt-mul_of_pos_right (units_lt f32 m k h) P) (le_of_eq (sym q))))

  nothing : 0 * 2 ^ 149 ≡ units f32 0 * D
  nothing = sym (ap (λ (x : ℕ). x * D) (units_small f32 0 (pow_pos 23)) ∙ zero-mul D)

  module _ (a m b k : ℕ) (p : a * 2 ^ 149 ≡ units f32 m * D) (q : b * 2 ^ 149 ≡ units f32 k * D) where
    below_over : (s t : Bool) → below s a t b ≡ below s m t k
    below_over false false = sym (over a m b k p q).less
    below_over false true = refl
    below_over true false = either a b ∙ sym (ap (λ (x : Bool). x || ltb 0 b) (over 0 0 a m nothing p).less) ∙ sym (ap (λ (x : Bool). ltb 0 m || x) (over 0 0 b k nothing q).less) ∙ sym (either m k)
      where
        either : (a b : ℕ) → ltb 0 (a + b) ≡ (ltb 0 a || ltb 0 b)
        either zero b = ap (ltb 0) (zero-add b)
        either (suc a) b = lt-ltb 0 (suc a + b) (omega arith) ∙ sym (ap (λ (x : Bool). x || ltb 0 b) (lt-ltb 0 (suc a) (omega arith)))
    below_over true true = sym (over b k a m q p).less

    level_over : (s t : Bool) → level s a t b ≡ level s m t k
    level_over s t = sym (ap (λ (x : Bool). x && (beq s t || eqb a 0)) (over a m b k p q).same) ∙ sym (ap (λ (x : Bool). eqb m k && (beq s t || x)) (over a m 0 0 p nothing).same)

-- the infinity beside a finite magnitude
module _ (m : ℕ) (h : m < infinity f32) where
  from_infinity : (s t : Bool) → below s (infinity f32) t m ≡ s
  from_infinity false false = le-ltb (infinity f32) m (omega arith)
  from_infinity false true = refl
  from_infinity true false = lt-ltb 0 (infinity f32 + m) (omega arith)
  from_infinity true true = lt-ltb m (infinity f32) h

  to_infinity : (s t : Bool) → below s m t (infinity f32) ≡ not t
  to_infinity false false = lt-ltb m (infinity f32) h
  to_infinity false true = refl
  to_infinity true false = lt-ltb 0 (m + infinity f32) (omega arith)
  to_infinity true true = le-ltb (infinity f32) m (omega arith)

infinities : (s t : Bool) → below s (infinity f32) t (infinity f32) ≡ (s && not t)
infinities false false = refl
infinities false true = refl
infinities true false = refl
infinities true true = refl

infinities_level : (s t : Bool) → level s (infinity f32) t (infinity f32) ≡ beq s t
infinities_level false false = refl
infinities_level false true = refl
infinities_level true false = refl
infinities_level true true = refl

-- over a denominator in common
common : (m e d u : ℕ) → m * 2 ^ 149 ≡ u * e → m * d * 2 ^ 149 ≡ u * (e * d)
common m e d u p = mul_right_comm m d (2 ^ 149) ∙ ap (λ (x : ℕ). x * d) p ∙ mul_assoc u e d

compared : (x y : Float) (m k : ℕ) → Sized x m → Sized y k → (lt x y ≡ below (sign x) m (sign y) k) × (eq x y ≡ level (sign x) m (sign y) k)
unfolding lt eq
compared nan y m k p q = absurd p
compared (inf s) nan m k p q = absurd q
compared (fin s a e) nan m k p q = absurd q
compared (inf s) (inf t) m k p q = rw (p, q) (sym (infinities s t), sym (infinities_level s t))
compared (inf s) (fin t b d) m k p q = rw (p, ne_eqb (infinity f32) k (λ (i : infinity f32 ≡ k). omega arith)) (sym (from_infinity k q.0 s t), refl)
compared (fin s a e) (inf t) m k p q = rw (q, ne_eqb m (infinity f32) (λ (i : m ≡ infinity f32). omega arith)) (sym (to_infinity m p.0 s t), refl)
compared (fin s a e) (fin t b d) m k p q =
    let D = down e * down d in
    let P = mul-pos (down_pos e) (down_pos d) in
    let i : a * up e * down d * 2 ^ 149 ≡ units f32 m * D = common (a * up e) (down e) (down d) (units f32 m) p.1 in
    let j : b * up d * down e * 2 ^ 149 ≡ units f32 k * D = common (b * up d) (down d) (down e) (units f32 k) q.1 ∙ ap (λ (x : ℕ). units f32 k * x) (mul_comm (down d) (down e)) in
    (below_over D P _ m _ k i j s t, level_over D P _ m _ k i j s t)

-- ---- the float of a pattern
sized : (x : Float) (s : Bool) (m : ℕ) → m < infinity f32 → HasValue x s (units f32 m) (2 ^ 149) → (sign x ≡ s) × Sized x m
sized nan s m h v = absurd v
sized (inf t) s m h v = absurd v
sized (fin t a e) s m h v = (v.0, (h, v.1))

of_bits_lem : (n : ℕ) → format.is_nan f32 n ≡ false → (sign (of_bits binary32 n) ≡ negative f32 n) × Sized (of_bits binary32 n) (magnitude f32 n)
unfolding of_bits
of_bits_lem n e =
    elim (eq-or-lt_of_le (number f32 n e)) [
      | inr l ↦ sized (of_bits binary32 n) (negative f32 n) (magnitude f32 n) l (bits_value n l)
      | inl i ↦
          let x : n % 0x8000_0000 / 0x80_0000 ≡ 255 = omega arith in
          let t : n % 0x80_0000 ≡ 0 = omega arith in
          rw (x, t) (refl, i)
    ]

-- ---- ranks
no_size : (m k : ℕ) → eqb m k && eqb m 0 ≡ eqb (m + k) 0
no_size zero zero = refl
no_size zero (suc k) = ap (λ (b : Bool). b && true) (eqb-zero-suc k) ∙ sym (ne_eqb (0 + suc k) 0 (λ (i : 0 + suc k ≡ 0). omega arith))
no_size (suc m) k = ap (λ (b : Bool). eqb (suc m) k && b) (eqb-suc-zero m) ∙ and-false (eqb (suc m) k) ∙ sym (ne_eqb (suc m + k) 0 (λ (i : suc m + k ≡ 0). omega arith))

module _ (m k : ℕ) (h : m < top f32) (i : k < top f32) where
  below_rank : (s t : Bool) → below s m t k ≡ ltb (cond s (top f32 - m) (top f32 + m)) (cond t (top f32 - k) (top f32 + k))
  below_rank false false = (alike m k (top f32 + m) (top f32 + k) (λ l. omega arith) (λ e. omega arith) (λ g. omega arith)).less
  below_rank false true = sym (le-ltb (top f32 + m) (top f32 - k) (omega arith))
  below_rank true false = (alike 0 (m + k) (top f32 - m) (top f32 + k) (λ l. omega arith) (λ e. omega arith) (λ g. absurd (omega arith))).less
  below_rank true true = (alike k m (top f32 - m) (top f32 - k) (λ l. omega arith) (λ e. omega arith) (λ g. omega arith)).less

  level_rank : (s t : Bool) → level s m t k ≡ eqb (cond s (top f32 - m) (top f32 + m)) (cond t (top f32 - k) (top f32 + k))
  level_rank false false = and-true (eqb m k) ∙ equal_alike m k (top f32 + m) (top f32 + k) (λ e. omega arith) (λ e. omega arith)
  level_rank false true = no_size m k ∙ equal_alike (m + k) 0 (top f32 + m) (top f32 - k) (λ e. omega arith) (λ e. omega arith)
  level_rank true false = no_size m k ∙ equal_alike (m + k) 0 (top f32 - m) (top f32 + k) (λ e. omega arith) (λ e. omega arith)
  level_rank true true = and-true (eqb m k) ∙ equal_alike m k (top f32 - m) (top f32 - k) (λ e. omega arith) (λ e. omega arith)

module _ (n m : ℕ) (i : format.is_nan f32 n ≡ false) (j : format.is_nan f32 m ≡ false) where
  pub lt_rank : lt (of_bits binary32 n) (of_bits binary32 m) ≡ ltb (rank f32 n) (rank f32 m)
  lt_rank =
      let x = of_bits_lem n i in
      let y = of_bits_lem m j in
      (compared _ _ _ _ x.1 y.1).0 ∙ rw (x.0, y.0) (below_rank (magnitude f32 n) (magnitude f32 m) (mod-lt n (omega arith)) (mod-lt m (omega arith)) (negative f32 n) (negative f32 m))

  pub eq_rank : eq (of_bits binary32 n) (of_bits binary32 m) ≡ eqb (rank f32 n) (rank f32 m)
  eq_rank =
      let x = of_bits_lem n i in
      let y = of_bits_lem m j in
      (compared _ _ _ _ x.1 y.1).1 ∙ rw (x.0, y.0) (level_rank (magnitude f32 n) (magnitude f32 m) (mod-lt n (omega arith)) (mod-lt m (omega arith)) (negative f32 n) (negative f32 m))

  pub le_rank : le (of_bits binary32 n) (of_bits binary32 m) ≡ leb (rank f32 n) (rank f32 m)
  unfolding le
  le_rank = ap (λ (b : Bool). b || eq (of_bits binary32 n) (of_bits binary32 m)) lt_rank ∙ ap (λ (b : Bool). ltb (rank f32 n) (rank f32 m) || b) eq_rank ∙ at_most (rank f32 n) (rank f32 m)

-- ---- halves: conversion keeps the order of ranks, and so does the way back
module _ (n m : ℕ) (h : n < 2 ^ 16) (l : m < 2 ^ 16) (i : format.is_nan f16 n ≡ false) (j : format.is_nan f16 m ≡ false) where
  pub single_rank : Alike (rank f32 (single_of n)) (rank f32 (single_of m)) (rank f16 n) (rank f16 m)
  single_rank =
      alike (rank f32 (single_of n)) (rank f32 (single_of m)) (rank f16 n) (rank f16 m)
      (λ (g : rank f32 (single_of n) < rank f32 (single_of m)). lt_of_not-le (λ (k : rank f16 m ≤ rank f16 n). not-le_of_lt g (up m n j i k)))
      (λ (e : rank f32 (single_of n) ≡ rank f32 (single_of m)). le_antisymm (back n m h l i j (le_of_eq e)) (back m n l h j i (le_of_eq (sym e))))
      (λ (g : rank f32 (single_of m) < rank f32 (single_of n)). lt_of_not-le (λ (k : rank f16 n ≤ rank f16 m). not-le_of_lt g (up n m i j k)))
    where
      up : (n m : ℕ) → format.is_nan f16 n ≡ false → format.is_nan f16 m ≡ false → rank f16 n ≤ rank f16 m → rank f32 (single_of n) ≤ rank f32 (single_of m)
      up n m i j k = rank_mono f16 f32 (lit< tt) n m i j k

      back : (n m : ℕ) → n < 2 ^ 16 → m < 2 ^ 16 → format.is_nan f16 n ≡ false → format.is_nan f16 m ≡ false → rank f32 (single_of n) ≤ rank f32 (single_of m) → rank f16 n ≤ rank f16 m
      back n m h l i j k =
          le_trans (le_of_eq (ap (rank f16) (sym (half_back n h i))))
          (le_trans (rank_mono f32 f16 (lit< tt) (single_of n) (single_of m) (number_kept f16 f32 n i) (number_kept f16 f32 m j) k) (le_of_eq (ap (rank f16) (half_back m l j))))

  pub half_lt_rank : lt (of_bits binary32 (single_of n)) (of_bits binary32 (single_of m)) ≡ ltb (rank f16 n) (rank f16 m)
  half_lt_rank = lt_rank (single_of n) (single_of m) (number_kept f16 f32 n i) (number_kept f16 f32 m j) ∙ single_rank.less

  pub half_le_rank : le (of_bits binary32 (single_of n)) (of_bits binary32 (single_of m)) ≡ leb (rank f16 n) (rank f16 m)
  half_le_rank = le_rank (single_of n) (single_of m) (number_kept f16 f32 n i) (number_kept f16 f32 m j) ∙ single_rank.most

  pub half_eq_rank : eq (of_bits binary32 (single_of n)) (of_bits binary32 (single_of m)) ≡ eqb (rank f16 n) (rank f16 m)
  half_eq_rank = eq_rank (single_of n) (single_of m) (number_kept f16 f32 n i) (number_kept f16 f32 m j) ∙ single_rank.same
