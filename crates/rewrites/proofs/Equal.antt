-- Two float lanes have one lane that stands for them exactly when they are the same bits, both NaN, or both zeros. By cases; the lane that stands for NaNs is a
-- NaN and no zero. Assumes nothing.
use mathlib.Core.Path.{◌≡◌, refl, sym, ap, ◌∙◌}
use mathlib.Core.Logic.{inl, inr, ◌↔◌}
use Prim.Native.Nat.{ℕ}
use mathlib.Core.Bool.{Bool, true, false, cond, false≢true}
use borrow.Author.Tests.{eqb-true, eq-eqb}
use lib.Dec.{ltb, eqb}
use Rattle.half.specs.Format.{Format, f16, f32, infinity, nan, magnitude, is_nan}
use Rattle.rewrites.specs.Equality.{stands_for_float, Spelled}

module _ (f : Format) (n : is_nan f (nan f) ≡ true) (z : is_nan f 0 ≡ false) (m : magnitude f 0 ≡ 0) where
  nought : (x : ℕ) → magnitude f x ≡ 0 → stands_for_float f x ≡ 0
  nought x h = let number : is_nan f x ≡ false = ap (ltb (infinity f)) (h ∙ sym m) ∙ z in rw (number, eq-eqb (magnitude f x) 0 h) refl

  -- a number stands for itself, or 0 for it, and neither is a NaN
  apart : (x : ℕ) (c : Bool) → is_nan f x ≡ false → nan f ≡ cond c 0 x → ⊥
  apart x true e h = false≢true (sym z ∙ ap (is_nan f) (sym h) ∙ n)
  apart x false e h = false≢true (sym e ∙ ap (is_nan f) (sym h) ∙ n)

  module _ (x y : ℕ) where
    writes : Spelled f x y → stands_for_float f x ≡ stands_for_float f y
    writes (inl e) = ap (stands_for_float f) e
    writes (inr (inl p)) = rw (p.0, p.1) refl
    writes (inr (inr p)) = nought x p.0 ∙ sym (nought y p.1)

    reads : (a b c d : Bool) → is_nan f x ≡ a → is_nan f y ≡ b → eqb (magnitude f x) 0 ≡ c → eqb (magnitude f y) 0 ≡ d → cond a (nan f) (cond c 0 x) ≡ cond b (nan f) (cond d 0 y) → Spelled f x y
    reads true true c d p q r s h = inr (inl (p, q))
    reads true false c d p q r s h = absurd (apart y d q h)
    reads false true c d p q r s h = absurd (apart x c p (sym h))
    reads false false true true p q r s h = inr (inr (eqb-true (magnitude f x) 0 r, eqb-true (magnitude f y) 0 s))
    reads false false true false p q r s h = inr (inr (eqb-true (magnitude f x) 0 r, ap (magnitude f) (sym h) ∙ m))
    reads false false false true p q r s h = inr (inr (ap (magnitude f) h ∙ m, eqb-true (magnitude f y) 0 s))
    reads false false false false p q r s h = inl h

    pub spelled : (stands_for_float f x ≡ stands_for_float f y) ↔ Spelled f x y
    spelled = ((λ h. reads (is_nan f x) (is_nan f y) (eqb (magnitude f x) 0) (eqb (magnitude f y) 0) refl refl refl refl h), writes)

pub spelled_f32 : (x y : ℕ) → (stands_for_float f32 x ≡ stands_for_float f32 y) ↔ Spelled f32 x y
spelled_f32 = spelled f32 refl refl refl

pub spelled_f16 : (x y : ℕ) → (stands_for_float f16 x ≡ stands_for_float f16 y) ↔ Spelled f16 x y
spelled_f16 = spelled f16 refl refl refl
