-- The number that a norm code stands for, where the code is n or minus n; how two such numbers compare, and how far one is from a lane. Assumes nothing.
use mathlib.Core.Path.{◌≡◌, refl, ap, ◌∙◌}
use Prim.Native.Nat.{ℕ, zero, suc, ◌+◌, ◌-◌, ◌*◌, ◌^◌, ◌≤◌}
use native.Mathlib.Nat.{zero-mul, mul-zero}
use native.Mathlib.Omega.{arith}
use mathlib.Core.Bool.{Bool, true, false, not, ◌&&◌, cond}
use borrow.Author.Tests.{lt-ltb, le-ltb, ltb-true, ltb-false}
use lib.Dec.{T, ltb, le→leb}
use lib.IntN.{ℤ, pos, negsuc, neg_ℤ, nat_abs, ◌-ℤ◌, ◌*ℤ◌}
use lib.Pow.{pow_pos}
use lib.Signed.{le_z}
use Rattle.half.specs.Nearest.{apart}
use Rattle.norm.specs.Norm.{scale, minus, number}
use Rattle.norm.proofs.Widths.{twice}

-- n, or minus n
abbrev pub signed : Bool → ℕ → ℤ
signed s n = cond s (neg_ℤ (pos n)) (pos n)

-- a code of the size n: below 0 only where codes are signed, or n is 0
pub record Sized (g : Bool) (w : ℕ) (s : Bool) (n : ℕ) : Type 0 where
  pub most : n ≤ scale g w
  pub unsigned : s && not g ≡ true → n ≡ 0

from_0 : (g : Bool) (w n : ℕ) → n ≤ scale g w → number g w n ≡ pos n
from_0 false w n h = refl
from_0 true w n h = rw (lt-ltb n (2 ^ (w - 1)) (omega (arith, pow_pos (w - 1))))

pub code_number : (g : Bool) (w : ℕ) → 1 ≤ w → (s : Bool) (n : ℕ) → Sized g w s n → number g w (cond s (minus w n) n) ≡ signed s n
code_number g w W false n k = from_0 g w n k.most
code_number g w W true zero k = from_0 g w 0 (omega arith)
code_number false w W true (suc n) k = absurd (omega (arith, k.unsigned refl))
code_number true w W true (suc n) k =
    let full = twice w W in
    let m = k.most in
    rw (le-ltb (2 ^ w - suc n) (2 ^ (w - 1)) (omega arith)) (ap negsuc (omega arith))

-- ---- the order of two, by what stands above W
pub signed_order : (W n m : ℕ) (s t : Bool) → cond s n 0 ≤ W → cond t m 0 ≤ W → cond s (W - n) (W + n) ≤ cond t (W - m) (W + m) → T (le_z (signed s n) (signed t m))
signed_order W n m false false p q h = le→leb n m (omega arith)
signed_order W zero m true false p q h = le→leb 0 m (omega arith)
signed_order W (suc n) m true false p q h = tt
signed_order W zero zero true true p q h = tt
signed_order W (suc n) zero true true p q h = tt
signed_order W zero (suc m) true true p q h = absurd (omega arith)
signed_order W (suc n) (suc m) true true p q h = le→leb m n (omega arith)
signed_order W zero zero false true p q h = tt
signed_order W (suc n) zero false true p q h = absurd (omega arith)
signed_order W n (suc m) false true p q h = absurd (omega arith)

-- ---- how far they are apart
difference : (a b : ℕ) → nat_abs (pos a -ℤ pos b) ≡ apart a b
difference a zero = omega arith
difference a (suc b) = go (ltb a (suc b)) refl
  where
    go : (t : Bool) → ltb a (suc b) ≡ t → nat_abs (cond t (negsuc (suc b - suc a)) (pos (a - suc b))) ≡ apart a (suc b)
    go true e = omega (arith, ltb-true a (suc b) e)
    go false e = omega (arith, ltb-false a (suc b) e)

minus_difference : (a b : ℕ) → nat_abs (neg_ℤ (pos a) -ℤ neg_ℤ (pos b)) ≡ apart a b
minus_difference zero zero = refl
minus_difference zero (suc b) = omega arith
minus_difference (suc a) zero = difference 0 (suc a) ∙ omega arith
minus_difference (suc a) (suc b) = difference (suc b) (suc a) ∙ omega arith

times_minus : (n L : ℕ) → neg_ℤ (pos n) *ℤ pos L ≡ neg_ℤ (pos (n * L))
times_minus zero L = rw (zero-mul L)
times_minus (suc n) L = refl

minus_times : (S u : ℕ) → pos S *ℤ neg_ℤ (pos u) ≡ neg_ℤ (pos (S * u))
minus_times S zero = rw (mul-zero S)
minus_times S (suc u) = refl

pub far : (s : Bool) (n L S u : ℕ) → nat_abs (signed s n *ℤ pos L -ℤ pos S *ℤ signed s u) ≡ apart (n * L) (S * u)
far false n L S u = difference (n * L) (S * u)
far true n L S u = rw (times_minus n L, minus_times S u) (minus_difference (n * L) (S * u))
