-- A size made whole: at whole numbers, below 1, and where size and unit share a factor; by what the program adds and cuts off; how near it stands, by
-- the remainder; and by how much a number stands above its floor. Assumes nothing.
use mathlib.Core.Path.{◌≡◌, refl, sym, ap, ◌∙◌}
use mathlib.Core.Logic.{inl, inr}
use Prim.Native.Nat.{ℕ, suc, ◌+◌, ◌-◌, ◌*◌, ◌/◌, ◌%◌, ◌≤◌, ◌<◌}
use native.Mathlib.Nat.{le_of_eq, lt_of_le_of_lt, lt_of_not-le, mul_assoc, mul-le-mul_right, mul-lt-mul_of_pos_right, mul-pos, le-mul_of_pos_right, mod-le, mod-lt, mod-eq_of_lt, mul-add-mod_self_right, div-eq_of_lt, div-add-mod', mul-div-mul_right, mul-div_cancel, mul-mod_left, zero-add, add-zero}
use native.Mathlib.Omega.{arith}
use mathlib.Core.Bool.{Bool, true, false, cond, not, ◌&&◌}
use lib.Dec.{leb, ltb, eqb}
use borrow.Author.Tests.{lt-ltb, le-ltb, le-leb, lt-leb}
use Rattle.half.specs.Nearest.{apart}
use Rattle.half.proofs.Closest.{split}
use Rattle.floats.proofs.Sums.{sub_mul}
use Rattle.rounding.specs.declared.Way.{Way}
use Rattle.rounding.specs.declared.Way.TheVariants.{Floor, Ceil, Trunc, Round}
use Rattle.rounding.specs.Rounding.{rises, whole_size, above}
use Rattle.rounding.specs.Program.{is_away, is_round, lift}

pub same_test : (a b c d : ℕ) → (a < b → c < d) → (c < d → a < b) → ltb a b ≡ ltb c d
same_test a b c d h k =
    elim (split c d) [
      | inl l ↦ lt-ltb a b (k l) ∙ sym (lt-ltb c d l)
      | inr g ↦ elim (split a b) [ inl l ↦ absurd (omega (arith, h l)) | inr i ↦ le-ltb a b i ∙ sym (le-ltb c d g) ]
    ]

-- what a rise depends on: whether there is a rest, and on which side of the middle it stands
pub rises_same : (w : Way) (s : Bool) (n r c o x d : ℕ) → ltb 0 r ≡ ltb 0 x → ltb c (r * 2 + n % 2) ≡ ltb d (x * 2 + o % 2) → rises w s n r c ≡ rises w s o x d
rises_same Floor s n r c o x d i j = ap (λ (b : Bool). s && b) i
rises_same Ceil s n r c o x d i j = ap (λ (b : Bool). not s && b) i
rises_same Trunc s n r c o x d i j = refl
rises_same Round s n r c o x d i j = j

pub rises_none : (w : Way) (s : Bool) (n c : ℕ) → 0 < c → rises w s n 0 c ≡ false
rises_none Floor true n c C = refl
rises_none Floor false n c C = refl
rises_none Ceil true n c C = refl
rises_none Ceil false n c C = refl
rises_none Trunc s n c C = refl
rises_none Round s n c C = le-ltb c (0 * 2 + n % 2) (omega arith)

mod_scaled : (a c z : ℕ) → 0 < z → a * z % (c * z) ≡ a % c * z
mod_scaled a c z Z = omega (arith, div-add-mod' (a * z) (c * z), ap (λ (n : ℕ). n * (c * z)) (mul-div-mul_right a c Z), ap (λ (n : ℕ). n * z) (div-add-mod' a c))

module _ (w : Way) (s : Bool) where
  pub size_exact : (n c : ℕ) → 0 < c → whole_size w s (n * c) c ≡ n
  unfolding whole_size
  size_exact n c C = rw (mul-div_cancel n C, mul-mod_left n c, rises_none w s n c C) (add-zero n)

  pub size_small : (a c : ℕ) → a < c → whole_size w s a c ≡ cond (rises w s 0 a c) 1 0
  unfolding whole_size
  size_small a c h = rw (div-eq_of_lt h, mod-eq_of_lt h) (zero-add (cond (rises w s 0 a c) 1 0))

  pub size_bounds : (a c : ℕ) → (a / c ≤ whole_size w s a c) × (whole_size w s a c ≤ suc (a / c))
  unfolding whole_size
  size_bounds a c = go (rises w s (a / c) (a % c) c)
    where
      go : (b : Bool) → (a / c ≤ a / c + cond b 1 0) × (a / c + cond b 1 0 ≤ suc (a / c))
      go true = omega arith
      go false = omega arith

  module _ (z : ℕ) (Z : 0 < z) where
    some : (r : ℕ) → ltb 0 (r * z) ≡ ltb 0 r
    some r = same_test 0 (r * z) 0 r (λ (h : 0 < r * z). lt_of_not-le (λ (g : r ≤ 0). omega (arith, mul-le-mul_right z g))) (λ (h : 0 < r). mul-pos h Z)

    middle : (r c b : ℕ) → b < 2 → ltb (c * z) (r * z * 2 + b) ≡ ltb c (r * 2 + b)
    middle r c b B =
        same_test (c * z) (r * z * 2 + b) c (r * 2 + b)
        (λ (h : c * z < r * z * 2 + b). lt_of_not-le (λ (g : r * 2 + b ≤ c). omega (arith, mul-le-mul_right z g, le-mul_of_pos_right b Z)))
        (λ (h : c < r * 2 + b). elim (split b 1) [ inl l ↦ omega (arith, mul-lt-mul_of_pos_right {m = c} {n = r * 2} (omega arith) Z) | inr g ↦ omega (arith, mul-le-mul_right {m = c} {n = r * 2} z (omega arith)) ])

    pub size_scaled : (a c : ℕ) → whole_size w s (a * z) (c * z) ≡ whole_size w s a c
    unfolding whole_size
    size_scaled a c =
        rw (mul-div-mul_right a c Z, mod_scaled a c z Z, rises_same w s (a / c) (a % c * z) (c * z) (a / c) (a % c) c (some (a % c)) (middle (a % c) c (a / c % 2) (mod-lt (a / c) (omega arith))))

-- ---- what is lifted reaches c where it goes up, and is cut off at the whole number
halved : (b c : ℕ) → b < 2 → 0 < c → cond (eqb b 0) (c - 1) c / 2 ≡ (c - 1 + b) / 2
halved b c B C =
    elim (split b 1) [
      | inl l ↦ let e : b ≡ 0 = omega arith in rw e (omega arith)
      | inr g ↦ let e : b ≡ 1 = omega arith in rw e (omega arith)
    ]

pub lift_most : (nearest away : Bool) (n c : ℕ) → 0 < c → lift nearest away n c < c
lift_most true away n c C = omega (arith, halved (n % 2) c (mod-lt n (omega arith)) C, mod-lt n {m = 2} (omega arith))
lift_most false true n c C = omega arith
lift_most false false n c C = C

reached : (a b c d : ℕ) → (a ≤ b → c < d) → (c < d → a ≤ b) → leb a b ≡ ltb c d
reached a b c d h k =
    elim (split c d) [
      | inl l ↦ le-leb a b (k l) ∙ sym (lt-ltb c d l)
      | inr g ↦ elim (split b a) [ inl l ↦ lt-leb a b l ∙ sym (le-ltb c d g) | inr i ↦ absurd (omega (arith, h i)) ]
    ]

pub lifted : (w : Way) (s : Bool) (n r c : ℕ) → r < c → leb c (r + lift (is_round w) (is_away w s) n c) ≡ rises w s n r c
lifted Floor true n r c h = reached c (r + (c - 1)) 0 r (λ (l : c ≤ r + (c - 1)). omega arith) (λ (l : 0 < r). omega arith)
lifted Floor false n r c h = lt-leb c (r + 0) (omega arith)
lifted Ceil true n r c h = lt-leb c (r + 0) (omega arith)
lifted Ceil false n r c h = reached c (r + (c - 1)) 0 r (λ (l : c ≤ r + (c - 1)). omega arith) (λ (l : 0 < r). omega arith)
lifted Trunc true n r c h = lt-leb c (r + 0) (omega arith)
lifted Trunc false n r c h = lt-leb c (r + 0) (omega arith)
lifted Round s n r c h =
    rw (halved (n % 2) c (mod-lt n (omega arith)) (omega arith))
    (reached c (r + (c - 1 + n % 2) / 2) c (r * 2 + n % 2) (λ (l : c ≤ r + (c - 1 + n % 2) / 2). omega arith) (λ (l : c < r * 2 + n % 2). omega arith))

remainder : (a k r c : ℕ) → a ≡ k * c + r → r < c → a % c ≡ r
remainder a k r c e h = ap (λ (x : ℕ). x % c) e ∙ mul-add-mod_self_right k c r ∙ mod-eq_of_lt h

cut : (m l c : ℕ) → 0 < c → l < c → m + l - (m + l) % c ≡ m - m % c + cond (leb c (m % c + l)) c 0
cut m l c C L =
    elim (split (m % c + l) c) [
      | inl h ↦ rw (lt-leb c (m % c + l) h, remainder (m + l) (m / c) (m % c + l) c (omega (arith, div-add-mod' m c)) h) (omega (arith, mod-le m c))
      | inr h ↦
          rw (le-leb c (m % c + l) h, remainder (m + l) (m / c + 1) (m % c + l - c) c (omega (arith, div-add-mod' m c)) (omega (arith, mod-lt m C)))
          (omega (arith, mod-le m c))
    ]

pub lifted_cut : (w : Way) (s : Bool) (m c l : ℕ) → 0 < c → l ≡ lift (is_round w) (is_away w s) (m / c) c → m + l - (m + l) % c ≡ m - m % c + cond (rises w s (m / c) (m % c) c) c 0
lifted_cut w s m c l C e =
    cut m l c C (lt_of_le_of_lt (le_of_eq e) (lift_most (is_round w) (is_away w s) (m / c) c C))
    ∙ ap (λ (b : Bool). m - m % c + cond b c 0) (ap (λ (x : ℕ). leb c (m % c + x)) e ∙ lifted w s (m / c) (m % c) c (mod-lt m C))

-- ---- the whole number on the side of 0, the one away from it, and the nearer of the two
module _ (a c : ℕ) (C : 0 < c) where
  pub inner : (n : ℕ) → n ≡ a / c + 0 → (n * c ≤ a) × (a < n * c + c)
  inner n e = omega (arith, ap (λ (n : ℕ). n * c) e, div-add-mod' a c, mod-lt a C)

  pub outer : (n : ℕ) → n ≡ a / c + cond (ltb 0 (a % c)) 1 0 → (a ≤ n * c) × (n * c < a + c)
  outer n e =
      elim (split 0 (a % c)) [
        | inl h ↦ omega (arith, ap (λ (n : ℕ). n * c) (rw (lt-ltb 0 (a % c) h) at e), div-add-mod' a c, mod-lt a C)
        | inr h ↦ omega (arith, ap (λ (n : ℕ). n * c) (rw (le-ltb 0 (a % c) h) at e), div-add-mod' a c, mod-lt a C)
      ]

  pub nearer : (n : ℕ) → n ≡ a / c + cond (ltb c (a % c * 2 + a / c % 2)) 1 0 → (apart a (n * c) * 2 ≤ c) × (apart a (n * c) * 2 ≡ c → n % 2 ≡ 0)
  nearer n e =
      elim (split c (a % c * 2 + a / c % 2)) [
        | inl h ↦ let i = rw (lt-ltb c (a % c * 2 + a / c % 2) h) at e in omega (arith, ap (λ (n : ℕ). n * c) i, div-add-mod' a c, mod-lt a C)
        | inr h ↦ let i = rw (le-ltb c (a % c * 2 + a / c % 2) h) at e in omega (arith, ap (λ (n : ℕ). n * c) i, div-add-mod' a c, mod-lt a C)
      ]

-- ---- above the floor
pub floor_gap : (s : Bool) (a c : ℕ) → 0 < c → (cond s a (whole_size Floor s a c * c) + above s a c ≡ cond s (whole_size Floor s a c * c) a) × (above s a c < c)
unfolding above whole_size
floor_gap true a c C = omega (arith, outer a c C _ refl)
floor_gap false a c C = omega (arith, inner a c C _ refl)

pub above_exact : (s : Bool) (n c : ℕ) → 0 < c → above s (n * c) c ≡ 0
unfolding above
above_exact true n c C = rw (size_exact Floor true n c C) (omega arith)
above_exact false n c C = rw (size_exact Floor false n c C) (omega arith)

pub above_scaled : (s : Bool) (z : ℕ) → 0 < z → (a c : ℕ) → above s (a * z) (c * z) ≡ above s a c * z
unfolding above
above_scaled true z Z a c = rw (size_scaled Floor true z Z a c, sub_mul) (ap (λ (x : ℕ). x - a * z) (sym (mul_assoc (whole_size Floor true a c) c z)))
above_scaled false z Z a c = rw (size_scaled Floor false z Z a c, sub_mul) (ap (λ (x : ℕ). a * z - x) (sym (mul_assoc (whole_size Floor false a c) c z)))
