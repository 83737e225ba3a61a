-- `magnitude_of` rounds to nearest as IEEE 754 states it. With N = a / d whole units d, no size of the format lies between N * d and (N + 1) * d,
-- and `closest` takes the nearer of the two, the even one at a tie; where the infinity stands as if it were the next number, that gives the
-- overflow too. The statement leaves no choice: two magnitudes that meet it are equal. Assumes nothing.
use mathlib.Core.Path.{◌≡◌, sym, ap, ◌∙◌, subst}
use mathlib.Core.Logic.{◌⊎◌, inl, inr}
use Prim.Native.Nat.{ℕ, zero, suc, ◌+◌, ◌-◌, ◌*◌, ◌/◌, ◌%◌, ◌^◌, ◌≤◌, ◌<◌}
use native.Mathlib.Nat.{le_trans, le_of_eq, le_of_lt, le_antisymm, add-mul, mul_assoc, mul_comm, mul-le-mul, mul-le-mul_right, mul-lt-mul_of_pos_right, mul-pos, min-eq_left, min-eq_right, mod-lt, div-add-mod', suc-mul, sub-add_cancel, pow-succ', eq_of_mul-eq-mul_right}
use native.Mathlib.Omega.{arith}
use lib.Dec.{lit<}
use lib.Pow.{pow_pos, pow_mono, pow-add}
use lib.Ieee.Nearest.{closest}
use Rattle.half.specs.Format.{Format, f16, f32, infinity, units, magnitude_of}
use Rattle.half.specs.Nearest.{apart, Nearest, overflow, Rounds}
use Rattle.half.proofs.Closest.{split, Closest, down, up, even, closest_is}
use Rattle.half.proofs.Sizes.{power_next, parts, units_is, units_lt, units_le, units_inj}
use Rattle.half.proofs.Signs.{infinity_pos}
use Rattle.half.proofs.Rounding.{dropped, unit, kept, uncapped, kept_least, rounded_placed, uncapped_is}

-- ---- of D and D + d, which W is the nearer to a = D + r
data Nearer (D d r q W : ℕ) : Type 0 where
  lower : W ≡ D → r * 2 ≤ d → (r * 2 ≡ d → q % 2 ≡ 0) → Nearer D d r q W
  upper : W ≡ D + d → d ≤ r * 2 → (r * 2 ≡ d → q % 2 ≡ 0) → Nearer D d r q W

nearer : (N r d q : ℕ) → Closest N r d q → Nearer (N * d) d r q (q * d)
nearer N r d q (down l e) = lower (ap (λ (x : ℕ). x * d) e) (le_of_lt l) (λ (t : r * 2 ≡ d). absurd (omega arith))
nearer N r d q (up l e) = upper (ap (λ (x : ℕ). x * d) e ∙ suc-mul N d) (le_of_lt l) (λ (t : r * 2 ≡ d). absurd (omega arith))
nearer N r d q (even t e) =
    elim (split (N % 2) 1) [
      | inl l ↦ lower (ap (λ (x : ℕ). x * d) (e ∙ stays N l)) (le_of_eq t) (λ (_ : r * 2 ≡ d). omega arith)
      | inr g ↦ upper (ap (λ (x : ℕ). x * d) (e ∙ rises N g) ∙ suc-mul N d) (le_of_eq (sym t)) (λ (_ : r * 2 ≡ d). omega arith)
    ]
  where
    stays : (N : ℕ) → N % 2 < 1 → N + N % 2 ≡ N
    stays N l = omega arith

    rises : (N : ℕ) → 1 ≤ N % 2 → N + N % 2 ≡ suc N
    rises N g = omega arith

module _ (a D d r q W U : ℕ) (e : a ≡ D + r) (l : r < d) where
  no_farther : Nearer D d r q W → (U ≤ D) ⊎ (D + d ≤ U) → apart a W ≤ apart a U
  no_farther (lower v s t) (inl g) = omega arith
  no_farther (lower v s t) (inr g) = omega arith
  no_farther (upper v s t) (inl g) = omega arith
  no_farther (upper v s t) (inr g) = omega arith

  at_tie : Nearer D d r q W → (U ≤ D) ⊎ (D + d ≤ U) → apart a U ≡ apart a W → (U ≡ W) ⊎ (q % 2 ≡ 0)
  at_tie (lower v s t) (inl g) i = inl (omega arith)
  at_tie (lower v s t) (inr g) i = inr (t (omega arith))
  at_tie (upper v s t) (inl g) i = inr (t (omega arith))
  at_tie (upper v s t) (inr g) i = inl (omega arith)

even_times : (p k : ℕ) → 0 < p → k * 2 ^ p % 2 ≡ 0
even_times zero k h = absurd (omega arith)
even_times (suc p) k h = omega (arith, ap (λ (x : ℕ). k * x) (pow-succ' 2 p ∙ mul_comm 2 (2 ^ p)) ∙ sym (mul_assoc k (2 ^ p) 2))

swapped : (n z c : ℕ) → n * z * c ≡ n * (c * z)
swapped n z c = mul_assoc n z c ∙ ap (λ (y : ℕ). n * y) (mul_comm z c)

-- ---- among all magnitudes, the infinity's and those above it read as further numbers
module _ (f : Format) (a c : ℕ) (C : 0 < c) where
  gap : (m : ℕ) → (units f m * c ≤ kept f a c * unit f a c) ⊎ (kept f a c * unit f a c + unit f a c ≤ units f m * c)
  gap m =
      let p = parts f m in
      let k = dropped f a c in
      let d = unit f a c in
      let n = a / d in
      let u = ap (λ (x : ℕ). x * c) p.size in
      elim (split p.k k) [
        | inl l ↦
            elim (kept_least f a c) [
              | inl z ↦ absurd (omega arith)
              | inr g ↦ inl (le_trans (le_of_eq u) (le_trans (mul-le-mul_right c (le_trans (mul-le-mul_right (2 ^ p.k) (le_of_lt p.below)) (le_trans (le_of_eq (power_next f.fraction p.k)) (mul-le-mul g (pow_mono l))))) (le_of_eq (swapped n (2 ^ k) c))))
            ]
        | inr g ↦
            let x = p.q * 2 ^ (p.k - k) in
            let e : units f m * c ≡ x * d = u ∙ ap (λ (y : ℕ). y * c) (ap (λ (y : ℕ). p.q * y) (ap (λ (y : ℕ). 2 ^ y) (sym (sub-add_cancel g)) ∙ pow-add 2 (p.k - k) k) ∙ sym (mul_assoc p.q (2 ^ (p.k - k)) (2 ^ k))) ∙ swapped x (2 ^ k) c in
            elim (split n x) [
              | inr h ↦ inl (le_trans (le_of_eq e) (mul-le-mul_right d h))
              | inl h ↦ inr (le_trans (le_of_eq (sym (suc-mul n d))) (le_trans (mul-le-mul_right d h) (le_of_eq (sym e))))
            ]
      ]

  size_of : units f (uncapped f a c) * c ≡ closest a (unit f a c) * unit f a c
  size_of =
      let k = dropped f a c in
      let q = closest a (unit f a c) in
      ap (λ (x : ℕ). x * c) (ap (units f) (uncapped_is f a c) ∙ units_is f k q (rounded_placed f a c)) ∙ swapped q (2 ^ k) c

  chosen : Nearer (kept f a c * unit f a c) (unit f a c) (a % unit f a c) (closest a (unit f a c)) (units f (uncapped f a c) * c)
  chosen = rw size_of (nearer (kept f a c) (a % unit f a c) (unit f a c) (closest a (unit f a c)) (closest_is a (unit f a c)))

  rest_below : a % unit f a c < unit f a c
  rest_below = mod-lt a (mul-pos C (pow_pos (dropped f a c)))

  pub near_all : (m : ℕ) → apart a (units f (uncapped f a c) * c) ≤ apart a (units f m * c)
  near_all m = no_farther a _ _ _ (closest a (unit f a c)) _ (units f m * c) (sym (div-add-mod' a (unit f a c))) rest_below chosen (gap m)

  pub even_all : 0 < f.fraction → (m : ℕ) → apart a (units f m * c) ≡ apart a (units f (uncapped f a c) * c) → (m ≡ uncapped f a c) ⊎ (uncapped f a c % 2 ≡ 0)
  even_all p m i =
      elim (at_tie a _ _ _ (closest a (unit f a c)) _ (units f m * c) (sym (div-add-mod' a (unit f a c))) rest_below chosen (gap m) i) [
        | inl e ↦ inl (units_inj f m (uncapped f a c) (eq_of_mul-eq-mul_right c C (units f m) (units f (uncapped f a c)) e))
        | inr e ↦ inr (omega (arith, uncapped_is f a c, even_times f.fraction (dropped f a c) p))
      ]

-- ---- with the infinity
-- each of the two fields has a bit
pub record Proper (f : Format) : Type 0 where
  pub exponent : 0 < f.exponent
  pub fraction : 0 < f.fraction

pub proper_f16 : Proper f16
proper_f16 = record { exponent = lit< tt; fraction = lit< tt }

pub proper_f32 : Proper f32
proper_f32 = record { exponent = lit< tt; fraction = lit< tt }

module _ (f : Format) (p : Proper f) where
  infinity_even : infinity f % 2 ≡ 0
  infinity_even = even_times f.fraction (2 ^ f.exponent - 1) p.fraction

  pub rounds : (a c : ℕ) → 0 < c → Rounds f a c (magnitude_of f a c)
  unfolding magnitude_of
  rounds a c C =
      let m = uncapped f a c in
      let x = units f (infinity f - 1) * c in
      let y = units f (infinity f) * c in
      let x<y : x < y = mul-lt-mul_of_pos_right (units_lt f (infinity f - 1) (infinity f) (omega (arith, infinity_pos f p.exponent))) C in
      let o : overflow f * c ≡ x + y = add-mul (units f (infinity f - 1)) (units f (infinity f)) c in
      record {
        below = λ (l : 2 * a < overflow f * c).
            elim (split m (infinity f)) [
              | inr g ↦ absurd (omega (arith, near_all f a c C (infinity f - 1), mul-le-mul_right c (units_le f (infinity f) m g)))
              | inl h ↦
                  subst (λ (n : ℕ). Nearest f a c n) (sym (min-eq_left (le_of_lt h)))
                  (record { finite = h; near = λ (n : ℕ) (_ : n < infinity f). near_all f a c C n; even = λ (n : ℕ) (_ : n < infinity f). even_all f a c C p.fraction n })
            ];
        above = λ (l : overflow f * c ≤ 2 * a).
            elim (split m (infinity f)) [
              | inr g ↦ min-eq_right g
              | inl h ↦
                  let z = units f m * c in
                  let z≤x : z ≤ x = mul-le-mul_right c (units_le f m (infinity f - 1) (omega arith)) in
                  let n = near_all f a c C (infinity f) in
                  let last : m ≡ infinity f - 1 = units_inj f m (infinity f - 1) (eq_of_mul-eq-mul_right c C (units f m) (units f (infinity f - 1)) (omega arith)) in
                  elim (even_all f a c C p.fraction (infinity f) (omega arith)) [
                    | inl e ↦ absurd (omega arith)
                    | inr e ↦ absurd (omega (arith, infinity_even, infinity_pos f p.exponent))
                  ]
            ];
      }

-- ---- there is only one
module _ (f : Format) (a c : ℕ) (C : 0 < c) where
  -- of two even magnitudes as near as each other neither is nearest: an odd one stands between them
  one_between : (m n : ℕ) → m < n → m % 2 ≡ 0 → n % 2 ≡ 0 → n < infinity f → Nearest f a c m → apart a (units f m * c) ≡ apart a (units f n * c) → ⊥
  one_between m n l i j h p e =
      let low = mul-lt-mul_of_pos_right (units_lt f m (suc m) (omega arith)) C in
      let high = mul-lt-mul_of_pos_right (units_lt f (suc m) n (omega arith)) C in
      let near = p.near (suc m) (omega arith) in
      omega arith

  pub determined : (m n : ℕ) → Rounds f a c m → Rounds f a c n → m ≡ n
  determined m n p r =
      elim (split (2 * a) (overflow f * c)) [
        | inr g ↦ p.above g ∙ sym (r.above g)
        | inl l ↦
            let P = p.below l in
            let R = r.below l in
            let e = le_antisymm (P.near n R.finite) (R.near m P.finite) in
            elim (P.even n R.finite (sym e)) [
              | inl i ↦ sym i
              | inr i ↦
                  elim (R.even m P.finite e) [
                    | inl j ↦ j
                    | inr j ↦
                        elim (split m n) [
                          | inl g ↦ absurd (one_between m n g i j R.finite P e)
                          | inr g ↦
                              elim (split n m) [
                                | inl h ↦ absurd (one_between n m h j i P.finite R (sym e))
                                | inr h ↦ le_antisymm h g
                              ]
                        ]
                  ]
            ]
      ]
