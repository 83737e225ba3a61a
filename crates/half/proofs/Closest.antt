-- `closest a d`, the whole number nearest to a / d: which it is, by how twice the remainder compares with d, and what follows from that.
-- Assumes nothing.
use mathlib.Core.Path.{◌≡◌, refl, ap, ◌∙◌, subst}
use mathlib.Core.Logic.{◌⊎◌, inl, inr}
use Prim.Native.Nat.{ℕ, suc, ◌+◌, ◌*◌, ◌/◌, ◌%◌, ◌≤◌, ◌<◌, compare, Ordering}
use native.Mathlib.Nat.{le_trans, mul-one, div-eq_of_lt, mod-eq_of_lt, le-div_iff_mul-le, div-lt_iff_lt-mul, mul-add-div_right, mul-add-mod_self_right}
use native.Mathlib.Omega.{arith}
use mathlib.Core.Bool.{Bool, true, false, not}
use lib.Dec.{T, is_le, compare_is_eq, eqb, leb→le, nleb→lt, eqb→eq, eqb_refl, ltb, ltb→lt, nltb→le}
use lib.Arith.{lt_of_le-ne}
use lib.Ieee.{nearest}
use lib.Ieee.Fits.{nearest-le}
use lib.Ieee.Nearest.{closest, closest_same, nearest-ge}

-- which of the two is so
pub split : (a b : ℕ) → (a < b) ⊎ (b ≤ a)
split a b = go (ltb a b) (ltb→lt a b) (nltb→le a b)
  where
    go : (t : Bool) → (T t → a < b) → (T (not t) → b ≤ a) → (a < b) ⊎ (b ≤ a)
    go true h k = inl (h tt)
    go false h k = inr (k tt)

-- x is q + r / d, with r below d, to the nearest whole number
pub data Closest (q r d x : ℕ) : Type 0 where
  down : r * 2 < d → x ≡ q → Closest q r d x
  up : d < r * 2 → x ≡ suc q → Closest q r d x
  even : r * 2 ≡ d → x ≡ q + q % 2 → Closest q r d x

pub closest_is : (a d : ℕ) → Closest (a / d) (a % d) d (closest a d)
closest_is a d =
    let x = a % d * 2 in
    go (compare x d) (leb→le x d) (nleb→lt x d) (eqb→eq x d) (λ (e : x ≡ d). subst (λ (z : ℕ). T (eqb x z)) e (eqb_refl x))
  where
    go : (o : Ordering) → (T (is_le o) → a % d * 2 ≤ d) → (T (not (is_le o)) → d < a % d * 2) → (T (compare_is_eq o) → a % d * 2 ≡ d) → (a % d * 2 ≡ d → T (compare_is_eq o)) → Closest (a / d) (a % d) d (nearest (a / d) o)
    go Ordering.lt h k e n = down (lt_of_le-ne (h tt) n) refl
    go Ordering.eq h k e n = even (e tt) refl
    go Ordering.gt h k e n = up (k tt) refl

pub closest_ge : (a d : ℕ) → a / d ≤ closest a d
closest_ge a d = nearest-ge (a / d) (compare (a % d * 2) d)

pub closest_le : (a d : ℕ) → closest a d ≤ suc (a / d)
closest_le a d = nearest-le (a / d) (compare (a % d * 2) d)

pub closest_range : (a d lo hi : ℕ) → 0 < d → lo * d ≤ a → a < hi * d → (lo ≤ closest a d) × (closest a d ≤ hi)
closest_range a d lo hi D l h = (le_trans ((le-div_iff_mul-le D).1 l) (closest_ge a d), le_trans (closest_le a d) ((div-lt_iff_lt-mul D).1 h))

-- below a half it is 0
pub closest_none : (a d : ℕ) → a * 2 < d → closest a d ≡ 0
closest_none a d h =
    elim (closest_is a d) [
      | down l e ↦ e ∙ div-eq_of_lt a<d
      | up l e ↦ absurd (omega (arith, mod-eq_of_lt a<d))
      | even l e ↦ absurd (omega (arith, mod-eq_of_lt a<d))
    ]
  where
    a<d : a < d
    a<d = omega arith

pub closest_one : (a : ℕ) → closest a 1 ≡ a
closest_one a = elim (closest_is a 1) [ down l e ↦ omega arith | up l e ↦ omega arith | even l e ↦ omega arith ]

pub closest_exact : (x d : ℕ) → 0 < d → closest (x * d) d ≡ x
closest_exact x d D = closest_same (x * d) d x 1 D (omega arith) (mul-one (x * d)) ∙ closest_one x

-- an even number more
pub closest_add : (x a d : ℕ) → 0 < d → closest (x * 2 * d + a) d ≡ x * 2 + closest a d
closest_add x a d D =
    ap (λ (q : ℕ). nearest q (compare ((x * 2 * d + a) % d * 2) d)) (mul-add-div_right D (x * 2) a)
    ∙ ap (λ (r : ℕ). nearest (x * 2 + a / d) (compare (r * 2) d)) (mul-add-mod_self_right (x * 2) d a)
    ∙ even_more (compare (a % d * 2) d)
  where
    even_more : (o : Ordering) → nearest (x * 2 + a / d) o ≡ x * 2 + nearest (a / d) o
    even_more Ordering.lt = refl
    even_more Ordering.eq = omega arith
    even_more Ordering.gt = omega arith
