-- How two lanes of one scalar differ, told by their normal lanes. Five facts of a scalar carry it: they hold where a lane is its own normal lane, and of a float by cases on whether each lane is a NaN or a zero. Assumes nothing.
use Prim.Native.Nat.{ℕ, suc, ◌+◌, ◌%◌, ◌<◌}
use mathlib.Core.Bool.{Bool, true, false, cond, false≢true}
use mathlib.Core.Logic.{◌⊎◌, inl, inr, ⊎_elim}
use mathlib.Core.Path.{◌≡◌, refl, sym, ap}
use native.Mathlib.Nat.{zero-mod, mod-eq_of_lt}
use native.Mathlib.Omega.{arith}
use borrow.Author.Tests.{ltb-true, ltb-false, eqb-true, eqb-false}
use lib.Dec.{ltb, eqb}
use Rattle.half.specs.Format.{f16, f32, top, infinity}
use Rattle.values.specs.declared.Scalar.{Scalar}
use Rattle.values.specs.declared.Scalar.TheVariants.{Boolean, I32, U32, F32, F16}
use Rattle.kinds.specs.Kinds.{normal_float, normal_lane}
use Rattle.kinds.specs.Laws.{zero_lane, nan_lane, ByZeroSign, ByNanBits, ByMore}

abbrev Both : (ℕ → Bool) → ℕ → ℕ → Type 0
Both p x y = (p x ≡ true) × (p y ≡ true)

-- what normal lanes tell of two lanes, by which of them are zeros and which are NaNs
record Told (normal : Bool → ℕ → ℕ) (zero nan : ℕ → Bool) : Type 0 where
  zeros : (x y : ℕ) → normal false x ≡ normal false y → (x ≡ y) ⊎ Both zero x y
  nans_or_zeros : (x y : ℕ) → normal true x ≡ normal true y → (x ≡ y) ⊎ Both nan x y ⊎ Both zero x y
  same_zeros : (x y : ℕ) → Both zero x y → (nans : Bool) → normal nans x ≡ normal nans y
  same_nans : (x y : ℕ) → Both nan x y → normal true x ≡ normal true y
  not_both : (x : ℕ) → zero x ≡ true → nan x ≡ true → ⊥

itself : Told (λ nans x. x) (λ x. false) (λ x. false)
itself = record {
  zeros = λ x y e. inl e;
  nans_or_zeros = λ x y e. inl e;
  same_zeros = λ x y z nans. absurd (false≢true z.0);
  same_nans = λ x y n. absurd (false≢true n.0);
  not_both = λ x z n. false≢true z;
}

-- ---- floats

module _ (h inf : ℕ) (room : inf + 1 < h) where
  abbrev is_zero : ℕ → Bool
  is_zero x = eqb (x % h) 0

  abbrev is_nan : ℕ → Bool
  is_nan x = ltb inf (x % h)

  -- a number's pattern is not the one that stands for the NaNs
  number : (x : ℕ) → is_nan x ≡ false → (b : Bool) → suc inf ≡ cond b 0 x → ⊥
  number x t true e = omega arith
  number x t false e = omega (arith, ltb-false inf (x % h) t, mod-eq_of_lt {n = x} {m = h} (omega arith))

  float_zeros : (x y : ℕ) → normal_float false h inf x ≡ normal_float false h inf y → (x ≡ y) ⊎ Both is_zero x y
  float_zeros x y = by (is_zero x) (is_zero y) refl refl
    where
      by : (p q : Bool) → is_zero x ≡ p → is_zero y ≡ q → cond p 0 x ≡ cond q 0 y → (x ≡ y) ⊎ ((p ≡ true) × (q ≡ true))
      by true true s t e = inr (refl, refl)
      by true false s t e = absurd (eqb-false (y % h) 0 t (rw (← e) (zero-mod h)))
      by false true s t e = absurd (eqb-false (x % h) 0 s (rw e (zero-mod h)))
      by false false s t e = inl e

  float_nans : (x y : ℕ) → normal_float true h inf x ≡ normal_float true h inf y → (x ≡ y) ⊎ Both is_nan x y ⊎ Both is_zero x y
  float_nans x y = by (is_nan x) (is_nan y) refl refl
    where
      by : (p q : Bool) → is_nan x ≡ p → is_nan y ≡ q → cond p (suc inf) (cond (is_zero x) 0 x) ≡ cond q (suc inf) (cond (is_zero y) 0 y)
          → (x ≡ y) ⊎ ((p ≡ true) × (q ≡ true)) ⊎ Both is_zero x y
      by true true s t e = inr (inl (refl, refl))
      by true false s t e = absurd (number y t (is_zero y) e)
      by false true s t e = absurd (number x s (is_zero x) (sym e))
      by false false s t e = ⊎_elim (λ z. inl z) (λ z. inr (inr z)) (float_zeros x y e)

  float : Told (λ nans x. normal_float nans h inf x) is_zero is_nan
  float = record {
    zeros = float_zeros;
    nans_or_zeros = float_nans;
    same_zeros = λ x y z nans. rw (eqb-true (x % h) 0 z.0, eqb-true (y % h) 0 z.1);
    same_nans = λ x y n. rw (n.0, n.1);
    not_both = λ x z n. omega (arith, eqb-true (x % h) 0 z, ltb-true inf (x % h) n);
  }

-- ---- lanes

told : (s : Scalar) → Told (λ nans x. normal_lane nans s x) (zero_lane s) (nan_lane s)
unfolding normal_lane
told Boolean = itself
told I32 = itself
told U32 = itself
told F32 = float (top f32) (infinity f32) (omega arith)
told F16 = float (top f16) (infinity f16) (omega arith)

-- lanes that are apart also when zeros of either sign count as one and, if `nans`, so do all NaNs
abbrev pub Differs : Bool → Scalar → ℕ → ℕ → Type 0
Differs nans s x y = normal_lane nans s x ≡ normal_lane nans s y → ⊥

module _ (s : Scalar) (x y : ℕ) where
  pub more : Differs true s x y → ByMore s x y
  more d = (λ e. d (ap (normal_lane true s) e), λ n. d ((told s).same_nans x y (n.0, n.1)), λ z. d ((told s).same_zeros x y (z.0, z.1) true))

  pub more_differs : ByMore s x y → Differs true s x y
  more_differs m e = elim ((told s).nans_or_zeros x y e) [
    | inl a ↦ m.0 a
    | inr (inl n) ↦ m.1 (n.0, n.1, m.0)
    | inr (inr z) ↦ m.2 (z.0, z.1, m.0)
  ]

  pub nan_differs : ByNanBits s x y → Differs false s x y
  nan_differs n e = elim ((told s).zeros x y e) [
    | inl a ↦ n.2 a
    | inr z ↦ (told s).not_both x z.0 n.0
  ]

  -- lanes that are not the same differ in one of three ways
  pub one_way : (x ≡ y → ⊥) → ByMore s x y ⊎ ByNanBits s x y ⊎ ByZeroSign s x y
  one_way d = by (eqb (normal_lane true s x) (normal_lane true s y)) refl
    where
      by : (t : Bool) → eqb (normal_lane true s x) (normal_lane true s y) ≡ t → ByMore s x y ⊎ ByNanBits s x y ⊎ ByZeroSign s x y
      by false e = inl (more (eqb-false (normal_lane true s x) (normal_lane true s y) e))
      by true e = elim ((told s).nans_or_zeros x y (eqb-true (normal_lane true s x) (normal_lane true s y) e)) [
        | inl a ↦ absurd (d a)
        | inr (inl n) ↦ inr (inl (n.0, n.1, d))
        | inr (inr z) ↦ inr (inr (z.0, z.1, d))
      ]

  pub more_or_nan : Differs false s x y → ByMore s x y ⊎ ByNanBits s x y
  more_or_nan d = elim (one_way (λ e. d (ap (normal_lane false s) e))) [
    | inl m ↦ inl m
    | inr (inl n) ↦ inr n
    | inr (inr z) ↦ absurd (d ((told s).same_zeros x y (z.0, z.1) false))
  ]
