-- The magnitude of a number made whole, by the digits that stand behind the point: below 1 all of them, and sizes compare as their magnitudes do. From 1 up size
-- and 1 share the power of two that the exponent gives, so that only the digits are looked at: whole ones stay, and what is behind the point is cut off or
-- carried. The magnitude has the digits' rest, and is odd where they are. Then the numbers that the program works with, which are the format's. Assumes nothing.
use mathlib.Core.Path.{◌≡◌, refl, sym, ap, ap₂, ◌∙◌}
use mathlib.Core.Logic.{inl, inr}
use Prim.Native.Nat.{ℕ, zero, suc, ◌+◌, ◌-◌, ◌*◌, ◌/◌, ◌%◌, ◌^◌, ◌≤◌, ◌<◌}
use native.Mathlib.Nat.{le_trans, le_of_eq, lt_of_lt_of_le, mul-le-mul_right, mod-lt, mod-one, mul-add-mod_self_right, mul-add-div_right, div-add-mod', mul_assoc, one-mul, zero-mul, le-div_iff_mul-le, div-lt_iff_lt-mul, two-pow-succ}
use native.Mathlib.Omega.{arith}
use mathlib.Core.Bool.{Bool, true, false, cond}
use lib.Pow.{pow_pos, pow_mono, pow-add}
use lib.Dec.{ltb}
use Rattle.half.specs.Format.{Format, hidden, lowest, units, pattern}
use Rattle.half.specs.Program.{format}
use Rattle.half.proofs.Closest.{split}
use Rattle.half.proofs.Sizes.{power_next, pattern_up_to, pattern_small, pattern_units, units_small, units_full, units_lt, lt_of_units}
use Rattle.rounding.specs.declared.Way.{Way}
use Rattle.rounding.specs.Rounding.{one, rises, whole_size, whole_magnitude}
use Rattle.rounding.specs.Program.{Sized}
use Rattle.rounding.proofs.Ways.{same_test, rises_same, rises_none, size_small, size_bounds, size_scaled}
use Rattle.rounding.proofs.Results.{field, Fields, fields_of, power_split, first_size, stays, stays_as}

-- ---- 1, and its half
module _ (f : Format) (F : Fields f) where
  abbrev pub unit : ℕ
  unit = suc (field f) * hidden f

  unit_size : units f unit ≡ one f
  unit_size = ap (units f) (omega arith) ∙ first_size f (field f) ∙ sym (power_split (lowest f) (field f) f.fraction F.lowest_is)

  half_size : 2 * units f (unit - hidden f) ≡ one f
  half_size =
      let k = field f - 1 in
      let K : field f ≡ suc k = omega (arith, F.low) in
      let e : units f (unit - hidden f) ≡ hidden f * 2 ^ k = ap (units f) (omega (arith, ap (λ (x : ℕ). x * hidden f) K)) ∙ first_size f k in
      let o : one f ≡ hidden f * 2 ^ suc k = power_split (lowest f) (suc k) f.fraction (F.lowest_is ∙ ap (λ (x : ℕ). x + f.fraction) K) in
      omega (arith, power_next f.fraction k, ap (λ (x : ℕ). x * 2 ^ k) (two-pow-succ f.fraction))

  tests : (a b : ℕ) → ltb (units f a) (units f b) ≡ ltb a b
  tests a b = same_test (units f a) (units f b) a b (lt_of_units f a b) (units_lt f a b)

even_scaled : (a n : ℕ) → a % 2 ≡ 0 → (a + n) * 2 ^ n % 2 ≡ 0
even_scaled a zero e = omega arith
even_scaled a (suc n) e = omega (arith, ap (λ (x : ℕ). (a + suc n) * x) (two-pow-succ n))

module _ (w : Way) (s : Bool) (f : Format) (F : Fields f) (m : ℕ) where
  pub whole_small : m < unit f F → cond (rises w s 0 m (2 * (unit f F - hidden f))) (unit f F) 0 ≡ whole_magnitude w s f m
  unfolding whole_magnitude
  whole_small h =
      let x = unit f F - hidden f in
      go (rises w s 0 m (2 * x))
      ∙ sym
      (ap (λ (n : ℕ). pattern f (n * one f))
      (size_small w s (units f m) (one f) (lt_of_lt_of_le (units_lt f m (unit f F) h) (le_of_eq (unit_size f F)))
      ∙ ap (λ (b : Bool). cond b 1 0)
      (rises_same w s 0 (units f m) (one f) 0 m (2 * x) (ap (λ (z : ℕ). ltb z (units f m)) (sym (units_small f 0 (pow_pos f.fraction))) ∙ tests f F 0 m)
      (doubled (units f x) (units f m) (one f) (half_size f F) ∙ tests f F x m ∙ sym (doubled x m (2 * x) refl)))))
    where
      doubled : (a b c : ℕ) → 2 * a ≡ c → ltb c (b * 2 + 0 % 2) ≡ ltb a b
      doubled a b c e = same_test c (b * 2 + 0 % 2) a b (λ (h : c < b * 2 + 0 % 2). omega arith) (λ (h : a < b). omega arith)

      go : (b : Bool) → cond b (unit f F) 0 ≡ pattern f (cond b 1 0 * one f)
      go true = sym (ap (pattern f) (one-mul (one f) ∙ sym (unit_size f F)) ∙ pattern_units f (unit f F))
      go false = sym (ap (pattern f) (zero-mul (one f)) ∙ pattern_small f 0 (omega arith))

  -- ---- from 1 up: the digits q with k zeros behind them
  abbrev past : ℕ
  past = (m - unit f F) / hidden f

  abbrev k : ℕ
  k = field f + past

  abbrev q : ℕ
  q = (m - unit f F) % hidden f + hidden f

  module _ (g : unit f F ≤ m) where
    joined : (m ≡ k * hidden f + q) × (hidden f ≤ q) × (q < hidden f + hidden f)
    joined = omega (arith, div-add-mod' (m - unit f F) (hidden f), mod-lt (m - unit f F) (pow_pos f.fraction))

    size : units f m ≡ q * 2 ^ k
    size = ap (units f) joined.0 ∙ units_full f k q joined.1 joined.2

    whole_far : f.fraction ≤ past → m ≡ whole_magnitude w s f m
    whole_far h = sym (stays_as f w s m (stays f w s m k q size (omega (arith, F.lowest_is))))

    -- d of the digits stand behind the point
    abbrev d : ℕ
    d = f.fraction - past

    module _ (h : past < f.fraction) where
      abbrev n : ℕ
      n = whole_size w s q (2 ^ d)

      kept : (hidden f ≤ n * 2 ^ d) × (n * 2 ^ d ≤ 2 ^ suc f.fraction)
      kept =
          let b = size_bounds w s q (2 ^ d) in
          let place : hidden f ≡ 2 ^ past * 2 ^ d = power_split f.fraction d past (omega arith) in
          let next : 2 ^ suc f.fraction ≡ 2 ^ suc past * 2 ^ d = power_split (suc f.fraction) d (suc past) (omega arith) in
          let low : 2 ^ past ≤ n = le_trans ((le-div_iff_mul-le (pow_pos d)).1 (le_trans (le_of_eq (sym place)) joined.1)) b.0 in
          let high : n ≤ 2 ^ suc past = le_trans b.1 ((div-lt_iff_lt-mul (pow_pos d)).1 (lt_of_lt_of_le joined.2 (le_of_eq (sym (two-pow-succ f.fraction) ∙ next)))) in
          (le_trans (le_of_eq place) (mul-le-mul_right (2 ^ d) low), le_trans (mul-le-mul_right (2 ^ d) high) (le_of_eq (sym next)))

      -- m has the digits' rest, and before it an even number more
      divided : (m % 2 ^ d ≡ q % 2 ^ d) × (m / 2 ^ d ≡ k * 2 ^ past + q / 2 ^ d)
      divided =
          let e : m ≡ k * 2 ^ past * 2 ^ d + q = omega (arith, joined, ap (λ (x : ℕ). k * x) (power_split f.fraction d past (omega arith))) in
          (ap (λ (x : ℕ). x % 2 ^ d) e ∙ mul-add-mod_self_right (k * 2 ^ past) (2 ^ d) q, ap (λ (x : ℕ). x / 2 ^ d) e ∙ mul-add-div_right (pow_pos d) (k * 2 ^ past) q)

      same_rise : rises w s (m / 2 ^ d) (m % 2 ^ d) (2 ^ d) ≡ rises w s (q / 2 ^ d) (q % 2 ^ d) (2 ^ d)
      same_rise =
          rises_same w s (m / 2 ^ d) (m % 2 ^ d) (2 ^ d) (q / 2 ^ d) (q % 2 ^ d) (2 ^ d)
          (ap (λ (r : ℕ). ltb 0 r) divided.0)
          (ap₂ (λ (r b : ℕ). ltb (2 ^ d) (r * 2 + b)) divided.0 (omega (arith, divided.1, even_scaled (field f) past F.even)))

      whole_near : m - m % 2 ^ d + cond (rises w s (m / 2 ^ d) (m % 2 ^ d) (2 ^ d)) (2 ^ d) 0 ≡ whole_magnitude w s f m
      unfolding whole_magnitude whole_size
      whole_near =
          let o : one f ≡ 2 ^ d * 2 ^ k = power_split (lowest f) k d (omega (arith, F.lowest_is)) in
          rw (same_rise, divided.0) (cut (rises w s (q / 2 ^ d) (q % 2 ^ d) (2 ^ d)))
          ∙ sym
          (ap (pattern f) (ap₂ (λ (m c : ℕ). m * c) (ap₂ (whole_size w s) size o ∙ size_scaled w s (2 ^ k) (pow_pos k) q (2 ^ d)) o ∙ sym (mul_assoc n (2 ^ d) (2 ^ k)))
          ∙ pattern_up_to f k (n * 2 ^ d) kept.0 kept.1)
        where
          cut : (b : Bool) → m - q % 2 ^ d + cond b (2 ^ d) 0 ≡ k * hidden f + (q / 2 ^ d + cond b 1 0) * 2 ^ d
          cut true = omega (arith, joined, div-add-mod' q (2 ^ d))
          cut false = omega (arith, joined, div-add-mod' q (2 ^ d))

    pub whole_from : m - m % 2 ^ d + cond (rises w s (m / 2 ^ d) (m % 2 ^ d) (2 ^ d)) (2 ^ d) 0 ≡ whole_magnitude w s f m
    whole_from = elim (split past f.fraction) [ inl h ↦ whole_near h | inr h ↦ uncut d (omega arith) ∙ whole_far h ]
      where
        uncut : (n : ℕ) → n ≡ 0 → m - m % 2 ^ n + cond (rises w s (m / 2 ^ n) (m % 2 ^ n) (2 ^ n)) (2 ^ n) 0 ≡ m
        uncut n e = rw (e, mod-one m, rises_none w s (m / 1) 1 (omega arith)) (omega arith)

-- ---- in the program: h is the leading digit's weight and t half of the sign's
pub record Numbers (e p h t : ℕ) : Type 0 where
  pub fields : Fields (format e p)
  pub hidden_is : h ≡ hidden (format e p)
  pub unit_is : t - h ≡ suc (field (format e p)) * hidden (format e p)
  pub some : 0 < h
  pub low : 4 * h ≤ t
  pub most : t ≤ 0x4000_0000

pub numbers : (e p h t : ℕ) → Sized e p → h ≡ 2 ^ p → t ≡ 2 ^ (e + p - 1) → Numbers e p h t
numbers e p h t z i g =
    let F = fields_of (format e p) z.deep in
    let before : e + p - 1 ≡ e - 1 + p = omega (arith, z.deep.exponent) in
    let T : t ≡ (field (format e p) + 2) * hidden (format e p) = g ∙ ap (λ (x : ℕ). 2 ^ x) before ∙ pow-add 2 (e - 1) p ∙ ap (λ (x : ℕ). x * 2 ^ p) F.weight in
    let L = mul-le-mul_right (hidden (format e p)) F.low in
    let M = le_trans (le_of_eq g) (pow_mono {j = 30} (omega (arith, z.bits))) in
    record { fields = F; hidden_is = i; unit_is = omega arith; some = omega (arith, pow_pos p); low = omega arith; most = M }
