-- dot and cross turned round: a product of floats is the same to the bit with its factors changed about, so dot adds the same products in the same order, and cross takes the same two products from
-- each other. A difference turned round is its negative, since the bits of a rounded fraction are its sign and those of its size; where nothing is left it is +0 both ways. Assumes nothing.
use mathlib.Core.Path.{◌≡◌, refl, sym, ap, ap₂, ◌∙◌, subst}
use mathlib.Core.Logic.{inl, inr}
use Prim.Native.Nat.{ℕ, zero, suc, ◌+◌, ◌-◌, ◌*◌, ◌%◌, ◌^◌, ◌<◌}
use native.Mathlib.Nat.{mul_comm, add_comm, mul-pos, eq-or-lt_of_le}
use native.Mathlib.Omega.{arith}
use mathlib.Core.Bool.{Bool, true, false, not, ◌&&◌, cond}
use borrow.Author.Tests.{lt-ltb, le-ltb}
use lib.Dec.{eqb, ltb}
use lib.IntN.{pos}
use lib.Ieee.{Float, nan, inf, fin, Format, binary32, unlike, up, down, round, neg, sum, add, sub, mul, of_bits, to_bits}
use lib.Ieee.Fits.{down_pos}
use lib.Ieee.Scale.{round_same}
use Rattle.half.specs.Format.{f32, top, signed, magnitude_of}
use Rattle.half.proofs.Closest.{split}
use Rattle.half.proofs.Signs.{infinity_below, negative_signed, magnitude_signed}
use Rattle.half.proofs.Library.{round_bits}
use Rattle.values.specs.declared.Scalar.{Scalar}
use Rattle.values.specs.declared.Scalar.TheVariants.{Boolean, I32, U32, F32, F16}
use Rattle.products.specs.Products.{summed, cross_lane, dot_lane}
use Rattle.rewrites.specs.Equality.{stands_for, SameLane, negated}

-- ---- products
unlike_comm : (s t : Bool) → unlike s t ≡ unlike t s
unlike_comm false false = refl
unlike_comm false true = refl
unlike_comm true false = refl
unlike_comm true true = refl

product_comm : (f : Format) (x y : Float) → mul f x y ≡ mul f y x
unfolding mul
product_comm f nan nan = refl
product_comm f nan (inf t) = refl
product_comm f nan (fin t n d) = refl
product_comm f (inf s) nan = refl
product_comm f (inf s) (inf t) = ap inf (unlike_comm s t)
product_comm f (inf s) (fin t n d) = ap (λ (b : Bool). cond (eqb n 0) nan (inf b)) (unlike_comm s t)
product_comm f (fin s m e) nan = refl
product_comm f (fin s m e) (inf t) = ap (λ (b : Bool). cond (eqb m 0) nan (inf b)) (unlike_comm s t)
product_comm f (fin s m e) (fin t n d) =
    ap (λ (b : Bool). round f b (m * up e * (n * up d)) (down e * down d)) (unlike_comm s t)
    ∙ ap₂ (round f (unlike t s)) (mul_comm (m * up e) (n * up d)) (mul_comm (down e) (down d))

-- ---- dot
same_terms : {A : Type 0} (plus : A → A → A) (p q : ℕ → A) → ((i : ℕ) → p i ≡ q i) → (n : ℕ) → summed plus p n ≡ summed plus q n
same_terms plus p q e zero = e 0
same_terms plus p q e (suc n) = ap₂ plus (same_terms plus p q e n) (e (suc n))

pub dot_commutes : (s : Scalar) (a b : ℕ → ℕ) (n : ℕ) → dot_lane s a b n ≡ dot_lane s b a n
dot_commutes s a b n = go s
  where
    words : dot_lane U32 a b n ≡ dot_lane U32 b a n
    words = same_terms (λ x y. (x + y) % 2 ^ 32) (λ i. a i * b i % 2 ^ 32) (λ i. b i * a i % 2 ^ 32) (λ i. ap (λ (x : ℕ). x % 2 ^ 32) (mul_comm (a i) (b i))) n

    go : (s : Scalar) → dot_lane s a b n ≡ dot_lane s b a n
    go Boolean = refl
    go I32 = words
    go U32 = words
    go F32 = ap (to_bits binary32) (same_terms (add binary32) (λ i. mul binary32 (of_bits binary32 (a i)) (of_bits binary32 (b i))) (λ i. mul binary32 (of_bits binary32 (b i)) (of_bits binary32 (a i))) (λ i. product_comm binary32 (of_bits binary32 (a i)) (of_bits binary32 (b i))) n)
    go F16 = refl

-- ---- differences
abbrev Turned : Float → Float → Type 0
Turned x y = SameLane F32 (to_bits binary32 x) (negated (to_bits binary32 y))

round_turned : (s : Bool) (n c : ℕ) → Turned (round binary32 s n c) (round binary32 (not s) n c)
round_turned s n c = ap (stands_for F32) (round_bits s n c ∙ sym (ap negated (round_bits (not s) n c) ∙ go s))
  where
    m : ℕ
    m = magnitude_of f32 (n * 2 ^ 149) c

    small : m < top f32
    small = unfold magnitude_of in omega (arith, infinity_below f32)

    apart : (s : Bool) → negated (signed f32 s m) ≡ signed f32 (not s) m
    apart s = ap₂ (λ (t : Bool) (k : ℕ). signed f32 (not t) k) (negative_signed f32 s m small) (magnitude_signed f32 s m small)

    go : (s : Bool) → negated (signed f32 (not s) m) ≡ signed f32 s m
    go false = apart true
    go true = apart false

module _ (a b c : ℕ) (h : 0 < c) where
  nothing_left : (n : ℕ) → n ≡ 0 → round binary32 false n c ≡ fin false 0 (pos 0)
  unfolding round
  nothing_left n e = ap (λ (k : ℕ). round binary32 false k c) e ∙ round_same binary32 false 0 c 0 1 h (omega arith) (omega arith) ∙ refl

  -- of two numbers with one sign, the first less the second and the second less the first, by which is below the other
  abbrev Differences : Bool → Bool → Bool → Type 0
  Differences s p q =
      Turned (cond p (round binary32 (not s) (b - a) c) (round binary32 (s && q) (a - b) c))
      (cond q (round binary32 (not s) (a - b) c) (round binary32 (s && p) (b - a) c))

  less : (s : Bool) → Differences s true false
  less false = round_turned true (b - a) c
  less true = round_turned false (b - a) c

  more : (s : Bool) → Differences s false true
  more false = round_turned false (a - b) c
  more true = round_turned true (a - b) c

  none : a ≡ b → (s : Bool) → Differences s false false
  none e s = go s
    where
      both : Turned (round binary32 false (a - b) c) (round binary32 false (b - a) c)
      both = rw (nothing_left (a - b) (omega arith), nothing_left (b - a) (omega arith)) (unfold to_bits in refl)

      go : (s : Bool) → Differences s false false
      go false = both
      go true = both

  differences : (s : Bool) → Differences s (ltb a b) (ltb b a)
  differences s =
      elim (split a b) [
        | inl l ↦ rw (lt-ltb a b l, le-ltb b a (omega arith)) (less s)
        | inr g ↦
            elim (eq-or-lt_of_le g) [
              | inl e ↦ rw (le-ltb a b g, le-ltb b a (omega arith)) (none (sym e) s)
              | inr l ↦ rw (le-ltb a b g, lt-ltb b a l) (more s)
            ]
      ]

  sums_turned : (s t : Bool) → Turned (sum binary32 s a (not t) b c) (sum binary32 t b (not s) a c)
  unfolding sum
  sums_turned false true = rw (add_comm a b) (round_turned false (b + a) c)
  sums_turned true false = rw (add_comm a b) (round_turned true (b + a) c)
  sums_turned false false = differences false
  sums_turned true true = differences true

difference_turned : (x y : Float) → Turned (sub binary32 x y) (sub binary32 y x)
unfolding sub neg to_bits
difference_turned nan nan = refl
difference_turned nan (inf t) = refl
difference_turned nan (fin t n d) = refl
difference_turned (inf s) nan = refl
difference_turned (inf false) (inf false) = refl
difference_turned (inf false) (inf true) = refl
difference_turned (inf true) (inf false) = refl
difference_turned (inf true) (inf true) = refl
difference_turned (inf false) (fin t n d) = refl
difference_turned (inf true) (fin t n d) = refl
difference_turned (fin s m e) nan = refl
difference_turned (fin s m e) (inf false) = refl
difference_turned (fin s m e) (inf true) = refl
difference_turned (fin s m e) (fin t n d) =
    let a = m * up e * down d in
    let b = n * up d * down e in
    subst (λ (c : ℕ). Turned (sum binary32 s a (not t) b (down e * down d)) (sum binary32 t b (not s) a c)) (mul_comm (down e) (down d))
    (sums_turned a b (down e * down d) (mul-pos (down_pos e) (down_pos d)) s t)

pub cross_turns : (a d b c : ℕ) → SameLane F32 (cross_lane a d b c) (negated (cross_lane c b d a))
cross_turns a d b c =
    let A = of_bits binary32 a in
    let B = of_bits binary32 b in
    let C = of_bits binary32 c in
    let D = of_bits binary32 d in
    difference_turned (mul binary32 A D) (mul binary32 B C)
    ∙ ap₂ (λ (u v : Float). stands_for F32 (negated (to_bits binary32 (sub binary32 u v)))) (product_comm binary32 B C) (product_comm binary32 A D)
