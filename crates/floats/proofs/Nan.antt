-- Which f32 patterns and which floats are NaN: the library's test of a pattern is that of the formats, and the NaN is the only float that
-- differs from itself. Assumes nothing.
use mathlib.Core.Path.{◌≡◌, refl, sym, ◌∙◌, subst}
use mathlib.Core.Bool.{true, false, not}
use Prim.Native.Nat.{ℕ}
use lib.Dec.{T}
use lib.Ieee.{Float, nan, inf, fin, binary32, ne, is_nan, nan_bits, of_bits}
use lib.Ieee.Bits.{nan_bits_is, nan_bits_above}
use lib.Ieee.Compare.{nan_differs}
use Rattle.half.specs.Format as format
use Rattle.half.specs.Format.{f32}

pub pattern_test : (n : ℕ) → nan_bits binary32 n ≡ format.is_nan f32 n
pattern_test n = nan_bits_above binary32 n

pub float_test : (n : ℕ) → is_nan (of_bits binary32 n) ≡ format.is_nan f32 n
float_test n = sym (nan_bits_is binary32 n) ∙ pattern_test n

pub one_nan : (x : Float) → is_nan x ≡ true → x ≡ nan
unfolding is_nan
one_nan nan e = refl
one_nan (inf s) e = absurd (subst T (sym e) tt)
one_nan (fin s m d) e = absurd (subst T (sym e) tt)

pub same_as_itself : (x : Float) → ne x x ≡ false → T (not (is_nan x))
unfolding is_nan
same_as_itself nan e = subst T (sym nan_differs ∙ e) tt
same_as_itself (inf s) e = tt
same_as_itself (fin s m d) e = tt
