-- A pattern is its sign and its magnitude, and each comes back from the other two: the sign is the one place above every magnitude.
-- Assumes nothing.
use mathlib.Core.Path.{◌≡◌, sym, ap, ◌∙◌}
use mathlib.Core.Logic.{inl, inr}
use Prim.Native.Nat.{ℕ, ◌+◌, ◌-◌, ◌*◌, ◌/◌, ◌^◌, ◌≤◌, ◌<◌}
use native.Mathlib.Nat.{mul-pos, mod-eq_of_lt, add-mod_left, mod-eq-sub-mod, suc-mul, zero-add, zero-mul, one-mul, div-eq_of_lt, le-div_iff_mul-le, div-lt_iff_lt-mul}
use native.Mathlib.Omega.{arith}
use mathlib.Core.Bool.{Bool, true, false, cond}
use borrow.Author.Tests.{lt-leb, le-leb, ltb-false}
use lib.Pow.{pow_pos, pow_mono, suc_ones}
use Rattle.half.specs.Format.{Format, hidden, top, infinity, magnitude, negative, signed, is_nan}
use Rattle.half.proofs.Closest.{split}

module _ (f : Format) where
  pub top_pos : 0 < top f
  top_pos = mul-pos (pow_pos f.exponent) (pow_pos f.fraction)

  pub top_is : infinity f + hidden f ≡ top f
  top_is = sym (suc-mul (2 ^ f.exponent - 1) (hidden f)) ∙ ap (λ (x : ℕ). x * hidden f) (suc_ones f.exponent)

  pub infinity_below : infinity f < top f
  infinity_below = omega (arith, top_is, pow_pos f.fraction)

  pub infinity_pos : 0 < f.exponent → 0 < infinity f
  infinity_pos e =
      let two : 2 ≤ 2 ^ f.exponent = pow_mono {i = 1} {j = f.exponent} e in
      mul-pos {m = 2 ^ f.exponent - 1} (omega arith) (pow_pos f.fraction)

  pub negative_signed : (s : Bool) (m : ℕ) → m < top f → negative f (signed f s m) ≡ s
  negative_signed true m h = le-leb (top f) (top f + m) (omega arith)
  negative_signed false m h = lt-leb (top f) (0 + m) (omega arith)

  pub magnitude_signed : (s : Bool) (m : ℕ) → m < top f → magnitude f (signed f s m) ≡ m
  magnitude_signed true m h = add-mod_left (top f) m ∙ mod-eq_of_lt h
  magnitude_signed false m h = mod-eq_of_lt {n = 0 + m} (omega arith) ∙ zero-add m

  pub signed_below : (s : Bool) (m : ℕ) → m < top f → signed f s m < 2 * top f
  signed_below true m h = omega arith
  signed_below false m h = omega arith

  pub signed_parts : (n : ℕ) → n < 2 * top f → signed f (negative f n) (magnitude f n) ≡ n
  signed_parts n h =
      elim (split n (top f)) [
        | inl l ↦ ap (λ (s : Bool). signed f s (magnitude f n)) (lt-leb (top f) n l) ∙ omega (arith, mod-eq_of_lt l)
        | inr g ↦ ap (λ (s : Bool). signed f s (magnitude f n)) (le-leb (top f) n g) ∙ omega (arith, mod-eq-sub-mod g, mod-eq_of_lt {n = n - top f} {m = top f} (omega arith))
      ]

  -- the sign alone, moved to another format's place
  pub sign_moved : (g : Format) (n : ℕ) → n < 2 * top f → n / top f * top g ≡ cond (negative f n) (top g) 0
  sign_moved g n h =
      elim (split n (top f)) [
        | inl l ↦ rw (lt-leb (top f) n l, div-eq_of_lt l) (zero-mul (top g))
        | inr k ↦
            let once : 1 ≤ n / top f = (le-div_iff_mul-le top_pos).1 (omega (arith, one-mul (top f))) in
            let below : n / top f < 2 = (div-lt_iff_lt-mul top_pos).1 h in
            let e : n / top f ≡ 1 = omega (arith, once, below) in
            rw (le-leb (top f) n k, e) (one-mul (top g))
      ]

  pub number : (n : ℕ) → is_nan f n ≡ false → magnitude f n ≤ infinity f
  number n e = ltb-false (infinity f) (magnitude f n) e
