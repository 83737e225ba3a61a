-- The definitions of frexp's two results by their cases: zero, infinity and NaN, which are not split, and a finite number that is not 0, whose
-- results are read off its first digits. Assumes nothing.
use Rattle.std.proofs.Common.{◌≡◌, ℕ, suc, ◌+◌, ◌-◌, ◌*◌, ◌%◌, ◌^◌, ◌<◌, Bool, true, false, cond, ◌||◌, eqb, leb, sym, refl, ap, arith, le-ltb, ne_eqb, leb-false}
use mathlib.Core.Bool.{false≢true}
use borrow.Author.Tests.{lt-leb, eqb-false}
use Rattle.half.specs.Format.{Format, hidden, infinity, nan, magnitude, negative, signed, is_nan, lowest}
use Rattle.exponent.specs.Exponent.{unsplit, fraction, exponent}
use Rattle.exponent.specs.Leads.{Leads}
use Rattle.exponent.proofs.FirstDigits.{size_is, half_is}

neither : (a b : Bool) → a || b ≡ false → (a ≡ false) × (b ≡ false)
neither false b e = (refl, e)
neither true b e = absurd (false≢true (sym e))

module _ (f : Format) (x : ℕ) where
  pub fraction_whole : unsplit f x ≡ true → fraction f x ≡ cond (is_nan f x) (nan f) x
  unfolding fraction
  fraction_whole e = rw e

  pub exponent_whole : unsplit f x ≡ true → exponent f x ≡ 0
  unfolding exponent
  exponent_whole e = rw e

  pub finite : unsplit f x ≡ false → (0 < magnitude f x) × (magnitude f x < infinity f)
  finite e =
      let n = neither (eqb (magnitude f x) 0) (leb (infinity f) (magnitude f x)) e in
      let some = eqb-false (magnitude f x) 0 n.0 in
      (omega arith, leb-false (infinity f) (magnitude f x) n.1)

  pub splits : 0 < magnitude f x → magnitude f x < infinity f → unsplit f x ≡ false
  splits n h = rw (ne_eqb (magnitude f x) 0 (λ (z : magnitude f x ≡ 0). omega arith), lt-leb (infinity f) (magnitude f x) h)

  module _ (u : unsplit f x ≡ false) (q s : ℕ) (l : Leads f.fraction (magnitude f x) q s) where
    pub fraction_is : (j : ℕ) → lowest f ≡ suc f.fraction + j → fraction f x ≡ signed f (negative f x) (j * hidden f + q)
    unfolding fraction
    fraction_is j e = rw (le-ltb (infinity f) (magnitude f x) (omega (arith, (finite u).1)), u) (ap (λ (m : ℕ). signed f (negative f x) m) (half_is f (magnitude f x) q s l j e))

    pub exponent_is : exponent f x ≡ (2 ^ 32 + s - lowest f) % 2 ^ 32
    unfolding exponent
    exponent_is = rw u (ap (λ (n : ℕ). (2 ^ 32 + n - lowest f) % 2 ^ 32) (size_is f (magnitude f x) q s l))
