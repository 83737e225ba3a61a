-- The ranks of i32, u32 and f32 lanes: of an i32 how far it lies above the least, of a u32 the lane itself, each counted from 1; of an f32 its place in the numeric order, which is that of
-- floats. Assumes nothing.
use mathlib.Core.Path.{◌≡◌, refl, sym, ap, ap₂, ◌∙◌, subst}
use Prim.Native.Nat.{ℕ, suc, ◌+◌, ◌-◌, ◌*◌, ◌^◌, ◌<◌}
use native.Mathlib.Nat.{mod-lt}
use native.Mathlib.Omega.{arith}
use mathlib.Core.Bool.{Bool, true, false, not, cond, false≢true}
use borrow.Author.Tests.{eqb-true, eq-eqb}
use lib.Dec.{T, lit<, eqb, leb-suc-suc}
use lib.Ieee as Ieee
use lib.Ieee.{Float, binary32, lt, of_bits, to_bits}
use lib.Ieee.Bits.{to_bits-of_bits}
use Rattle.half.specs.Format.{f32, top, nan, magnitude, negative, signed, is_nan, rank}
use Rattle.half.proofs.Signs.{signed_parts}
use Rattle.floats.proofs.Nan.{float_test, one_nan}
use Rattle.floats.proofs.Order.{lt_rank}
use Rattle.values.specs.declared.Scalar.TheVariants.{I32, U32, F32}
use Rattle.limits.specs.Limits.{above}
use Rattle.rewrites.proofs.Ranked.{Ranked}

-- ---- integers: every lane is a number
pub u32_ranked : Ranked U32
u32_ranked = record {
  again = λ x. x;
  number = λ x h e. refl;
  nan = λ x e. absurd (false≢true e);
  one_nan = λ x y e g. absurd (false≢true e);
  other = λ second x y. refl;
  rank = suc;
  bound = suc (2 ^ 32);
  least = λ x. omega arith;
  most = λ x h. omega arith;
  below = λ x y i j. sym (leb-suc-suc (suc x) y);
  nan_below = λ x y e. absurd (false≢true e);
  below_nan = λ x y e. absurd (false≢true e);
  same = λ x y h k i j e. omega arith;
  same_nan = λ x y e g. absurd (false≢true e);
  stands_nan = λ x. refl;
  stands = λ x e. refl;
}

pub i32_ranked : Ranked I32
i32_ranked = record {
  again = λ x. x;
  number = λ x h e. refl;
  nan = λ x e. absurd (false≢true e);
  one_nan = λ x y e g. absurd (false≢true e);
  other = λ second x y. refl;
  rank = λ x. suc (above x);
  bound = suc (2 ^ 32);
  least = λ x. omega arith;
  most = λ x h. omega arith;
  below = λ x y i j. sym (leb-suc-suc (suc (above x)) (above y));
  nan_below = λ x y e. absurd (false≢true e);
  below_nan = λ x y e. absurd (false≢true e);
  same = λ x y h k i j e. omega arith;
  same_nan = λ x y e g. absurd (false≢true e);
  stands_nan = λ x. refl;
  stands = λ x e. refl;
}

-- ---- f32: a lane read as a float and written
abbrev again : ℕ → ℕ
again x = to_bits binary32 (of_bits binary32 x)

of_nan : (x : ℕ) → is_nan f32 x ≡ true → of_bits binary32 x ≡ Ieee.nan
of_nan x e = one_nan (of_bits binary32 x) (float_test x ∙ e)

again_nan : (x : ℕ) → is_nan f32 x ≡ true → again x ≡ nan f32
unfolding to_bits
again_nan x e = ap (to_bits binary32) (of_nan x e)

again_number : (x : ℕ) → x < 2 ^ 32 → is_nan f32 x ≡ false → again x ≡ x
again_number x h e = to_bits-of_bits binary32 x h (subst (λ (b : Bool). T (not b)) (sym (float_test x ∙ e)) tt)

small : (x : ℕ) → magnitude f32 x < top f32
small x = mod-lt x {m = top f32} (lit< tt)

rank_bounds : (x : ℕ) → (0 < rank f32 x) × (rank f32 x < 2 * top f32)
rank_bounds x = go (negative f32 x)
  where
    go : (s : Bool) → (0 < cond s (top f32 - magnitude f32 x) (top f32 + magnitude f32 x)) × (cond s (top f32 - magnitude f32 x) (top f32 + magnitude f32 x) < 2 * top f32)
    go true = (omega (arith, small x), omega (arith, small x))
    go false = (omega (arith, small x), omega (arith, small x))

-- numbers of one rank are zeros or one pattern
abbrev whole : ℕ → ℕ
whole x = cond (eqb (magnitude f32 x) 0) 0 x

rank_same : (x y : ℕ) → x < 2 ^ 32 → y < 2 ^ 32 → rank f32 x ≡ rank f32 y → whole x ≡ whole y
rank_same x y h k e = go (negative f32 x) (negative f32 y) refl refl e
  where
    zeros : magnitude f32 x ≡ 0 → magnitude f32 y ≡ 0 → whole x ≡ whole y
    zeros i j = rw (eq-eqb (magnitude f32 x) 0 i, eq-eqb (magnitude f32 y) 0 j)

    joined : (s : Bool) → negative f32 x ≡ s → negative f32 y ≡ s → magnitude f32 x ≡ magnitude f32 y → whole x ≡ whole y
    joined s p q i = ap whole (sym (signed_parts f32 x h) ∙ ap₂ (signed f32) (p ∙ sym q) i ∙ signed_parts f32 y k)

    go : (s t : Bool) → negative f32 x ≡ s → negative f32 y ≡ t → cond s (top f32 - magnitude f32 x) (top f32 + magnitude f32 x) ≡ cond t (top f32 - magnitude f32 y) (top f32 + magnitude f32 y)
        → whole x ≡ whole y
    go true true p q i = joined true p q (omega (arith, small x, small y, i))
    go false false p q i = joined false p q (omega (arith, i))
    go true false p q i = zeros (omega (arith, small x, small y, i)) (omega (arith, small x, small y, i))
    go false true p q i = zeros (omega (arith, small x, small y, i)) (omega (arith, small x, small y, i))

-- the lane that stands for another has its rank
whole_kept : (x : ℕ) → (is_nan f32 (whole x) ≡ is_nan f32 x) × (rank f32 (whole x) ≡ rank f32 x)
whole_kept x = go (eqb (magnitude f32 x) 0) refl
  where
    none : (s : Bool) → top f32 ≡ cond s (top f32 - 0) (top f32 + 0)
    none true = refl
    none false = refl

    go : (b : Bool) → eqb (magnitude f32 x) 0 ≡ b → (is_nan f32 (cond b 0 x) ≡ is_nan f32 x) × (rank f32 (cond b 0 x) ≡ rank f32 x)
    go true e = let z = eqb-true (magnitude f32 x) 0 e in rw z (refl, none (negative f32 x))
    go false e = (refl, refl)

f32_stands : (x : ℕ) (b : Bool) → is_nan f32 x ≡ b → is_nan f32 (cond b (nan f32) (whole x)) ≡ b
f32_stands x true e = refl
f32_stands x false e = (whole_kept x).0 ∙ e

-- ---- the order
nothing_below : (v : Float) → lt v Ieee.nan ≡ false
unfolding lt
nothing_below Ieee.nan = refl
nothing_below (Ieee.inf s) = refl
nothing_below (Ieee.fin s m e) = refl

nan_below_nothing : (v : Float) → lt Ieee.nan v ≡ false
unfolding lt
nan_below_nothing v = refl

-- what is chosen is a lane, read and written
written : (b c : Bool) (x y : ℕ) → to_bits binary32 (cond b (of_bits binary32 y) (cond c (of_bits binary32 y) (of_bits binary32 x))) ≡ again (cond b y (cond c y x))
written true c x y = refl
written false true x y = refl
written false false x y = refl

pub f32_ranked : Ranked F32
f32_ranked = record {
  again = again;
  number = again_number;
  nan = λ x e. ap (is_nan f32) (again_nan x e);
  one_nan = λ x y e g. again_nan x e ∙ sym (again_nan y g);
  other = λ second x y. written (Ieee.is_nan (of_bits binary32 x)) second x y ∙ ap (λ (b : Bool). again (cond b y (cond second y x))) (float_test x);
  rank = rank f32;
  bound = 2 * top f32;
  least = λ x. (rank_bounds x).0;
  most = λ x h. (rank_bounds x).1;
  below = lt_rank;
  nan_below = λ x y e. ap (λ (v : Float). lt v (of_bits binary32 y)) (of_nan x e) ∙ nan_below_nothing (of_bits binary32 y);
  below_nan = λ x y e. ap (lt (of_bits binary32 x)) (of_nan y e) ∙ nothing_below (of_bits binary32 x);
  same = λ x y h k i j e. rw (i, j) (rank_same x y h k e);
  same_nan = λ x y e g. rw (e, g);
  stands_nan = λ x. f32_stands x (is_nan f32 x) refl;
  stands = λ x e. rw e (whole_kept x).1;
}
