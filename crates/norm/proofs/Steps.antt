-- What the steps of packing do to n / S rounded, for n from 0 to the scale S: every step is rounded, and each rounded value stays between two quarters of a code,
-- which are values of f32 themselves. So the code is n, or minus n where the sign is set. Assumes nothing.
use mathlib.Core.Path.{◌≡◌, refl, sym, ap, ◌∙◌, subst}
use Prim.Native.Nat.{ℕ, suc, ◌+◌, ◌-◌, ◌*◌, ◌/◌, ◌^◌, ◌≤◌, ◌<◌}
use native.Mathlib.Nat.{le_trans, le_of_eq, le_of_lt, mul-one, one-mul, zero-mul, suc-mul, mul_comm, mul_assoc, mul_left_comm, mul_right_comm, add-mul, mul-le-mul_right, le_of_mul-le-mul_right, div-mul-le_self, div-lt_iff_lt-mul, lt-mul-div-succ}
use native.Mathlib.Omega.{arith}
use mathlib.Core.Bool.{Bool, true, false, cond, true≢false}
use borrow.Author.Tests.{lt-ltb, le-ltb}
use lib.Dec.{lit<, lit≤}
use lib.IntN.{ℤ}
use lib.Pow.{pow_pos}
use lib.Ieee.{Float, nan, inf, fin, binary32, up, down, round, unlike, sum, add, mul, lt, of_int}
use lib.Ieee.Exact.{HasValue}
use lib.Ieee.Back.{round_whole}
use Rattle.norm.specs.Norm.{scale, one, half, least, clamped, floor_code, depth, stepped}
use Rattle.floats.proofs.Sums.{sub_mul, add_value}
use Rattle.norm.proofs.Fractions.{unit, units, Within, within, signed, mul_value}
use Rattle.norm.proofs.Codes.{code_from_0, code_below_0}

-- y, in units, is within a quarter of n
pub record Quarter (n y : ℕ) : Type 0 where
  pub lo : 4 * (n * unit) ≤ 4 * y + unit
  pub hi : 4 * y ≤ 4 * (n * unit) + unit

-- ---- n / S rounded: at most 1, and S times it is within a quarter of n
pub record Near (S n u : ℕ) : Type 0 where
  pub small : u ≤ unit
  pub quarter : Quarter n (S * u)

pub near : (S n : ℕ) → 0 < S → S ≤ 65536 → n ≤ S → HasValue (round binary32 false n S) false (units n S) unit × Near S n (units n S)
near S n P sm h =
    let q = n * 8388608 / S in
    let u = units n S in
    let y : q * S ≤ n * 8388608 = div-mul-le_self (n * 8388608) S in
    let y' : n * 8388608 ≤ (q + 1) * S = le_of_lt (subst (λ (z : ℕ). n * 8388608 < z) (mul_comm S (q + 1)) (lt-mul-div-succ (n * 8388608) P)) in
    let q-lt : q < 8388609 = (div-lt_iff_lt-mul P).1 (omega arith) in
    let r = within 23 (lit≤ tt) n S q (q + 1) P (omega arith) y y' in
    let top = within 0 (lit≤ tt) n S 0 1 P (lit< tt) (omega arith) (omega arith) in (
      r.value,
      record {
        small = subst (λ (z : ℕ). z ≤ unit) (mul-one u) top.high;
        quarter = record { lo = low S n q u unit r.low y' sm; hi = high S n q u unit r.high y sm };
      },
    )
  where
    -- `omega` takes no number of more than 38 digits, so the unit is a variable here
    low : (S n q u l : ℕ) → q * l ≤ u * 8388608 → n * 8388608 ≤ (q + 1) * S → S ≤ 65536 → 4 * (n * l) ≤ 4 * (S * u) + l
    low S n q u l b y sm =
        go (S * u) (q * S * l) (S * l) (n * l) l
        (le_trans (le_of_eq (mul_right_comm q S l)) (le_trans (mul-le-mul_right S b) (le_of_eq (mul_right_comm u 8388608 S ∙ ap (λ (z : ℕ). z * 8388608) (mul_comm u S)))))
        (le_trans (le_of_eq (mul_right_comm n l 8388608)) (le_trans (mul-le-mul_right l y) (le_of_eq (simp (add-mul, one-mul)))))
        (mul-le-mul_right l sm)
      where
        go : (X Y S n l : ℕ) → Y ≤ X * 8388608 → n * 8388608 ≤ Y + S → S ≤ 65536 * l → 4 * n ≤ 4 * X + l
        go X Y S n l b y s = omega arith

    high : (S n q u l : ℕ) → u * 8388608 ≤ (q + 1) * l → q * S ≤ n * 8388608 → S ≤ 65536 → 4 * (S * u) ≤ 4 * (n * l) + l
    high S n q u l a y sm =
        go (S * u) (q * S * l) (S * l) (n * l) l
        (le_trans (le_of_eq (sym (mul_right_comm u 8388608 S ∙ ap (λ (z : ℕ). z * 8388608) (mul_comm u S)))) (le_trans (mul-le-mul_right S a) (le_of_eq (mul_right_comm (q + 1) l S ∙ simp (add-mul, one-mul)))))
        (le_trans (mul-le-mul_right l y) (le_of_eq (mul_right_comm n 8388608 l)))
        (mul-le-mul_right l sm)
      where
        go : (X Y S n l : ℕ) → X * 8388608 ≤ Y + S → Y ≤ n * 8388608 → S ≤ 65536 * l → 4 * X ≤ 4 * n + l
        go X Y S n l a y s = omega arith

-- ---- the steps, in quarters
quarters : (a b p q n : ℕ) → 0 < b → n ≤ 65536 → q ≤ 4 * n + 3 → p * b ≤ a * 4 → a * 4 ≤ q * b → Within 2 a b p q
quarters a b p q n B h k = within 2 (lit≤ tt) a b p q B (omega arith)

-- rounded it stays there
times : (n y : ℕ) → n ≤ 65536 → Quarter n y → HasValue (round binary32 false y unit) false (units y unit) unit × Quarter n (units y unit)
times n y h k =
    let r = quarters y unit (4 * n - 1) (4 * n + 1) n (pow_pos 149) h (omega arith) (low n y unit k.lo) (high n y unit k.hi) in
    (r.value, record { lo = low' n (units y unit) unit r.low; hi = high' n (units y unit) unit r.high })
  where
    low : (n y l : ℕ) → 4 * (n * l) ≤ 4 * y + l → (4 * n - 1) * l ≤ y * 4
    low n y l h = simp (sub_mul, mul_assoc, one-mul) (omega arith)

    high : (n y l : ℕ) → 4 * y ≤ 4 * (n * l) + l → y * 4 ≤ (4 * n + 1) * l
    high n y l h = simp (add-mul, mul_assoc, one-mul) (omega arith)

    low' : (n y l : ℕ) → (4 * n - 1) * l ≤ y * 4 → 4 * (n * l) ≤ 4 * y + l
    low' n y l h = omega (arith, simp (sub_mul, mul_assoc, one-mul) at h)

    high' : (n y l : ℕ) → y * 4 ≤ (4 * n + 1) * l → 4 * y ≤ 4 * (n * l) + l
    high' n y l h = omega (arith, simp (add-mul, mul_assoc, one-mul) at h)

-- a half and it
plus : (n y : ℕ) → n ≤ 65536 → Quarter n y → Within 2 (1 * unit + y * 2) (2 * unit) (4 * n + 1) (4 * n + 3)
plus n y h k = quarters (1 * unit + y * 2) (2 * unit) (4 * n + 1) (4 * n + 3) n (pow_pos 150) h (omega arith) (low n y unit k.lo) (high n y unit k.hi)
  where
    low : (n y l : ℕ) → 4 * (n * l) ≤ 4 * y + l → (4 * n + 1) * (2 * l) ≤ (1 * l + y * 2) * 4
    low n y l h = simp (add-mul, mul_assoc, one-mul, mul_left_comm n 2 l) (omega arith)

    high : (n y l : ℕ) → 4 * y ≤ 4 * (n * l) + l → (1 * l + y * 2) * 4 ≤ (4 * n + 3) * (2 * l)
    high n y l h = simp (add-mul, mul_assoc, one-mul, mul_left_comm n 2 l) (omega arith)

-- it less a half, from 1 up
less : (n y : ℕ) → n ≤ 65536 → Quarter (suc n) y → (1 * unit < y * 2) × Within 2 (y * 2 - 1 * unit) (2 * unit) (4 * n + 1) (4 * n + 3)
less n y h k = (
  past n y unit (pow_pos 149) k.lo,
  quarters (y * 2 - 1 * unit) (2 * unit) (4 * n + 1) (4 * n + 3) n (pow_pos 150) h (omega arith) (low n y unit k.lo) (high n y unit k.hi),
)
  where
    past : (n y l : ℕ) → 0 < l → 4 * (suc n * l) ≤ 4 * y + l → 1 * l < y * 2
    past n y l p h = omega (arith, simp suc-mul at h)

    low : (n y l : ℕ) → 4 * (suc n * l) ≤ 4 * y + l → (4 * n + 1) * (2 * l) ≤ (y * 2 - 1 * l) * 4
    low n y l h = simp (add-mul, mul_assoc, one-mul, mul_left_comm n 2 l) (omega (arith, simp suc-mul at h))

    high : (n y l : ℕ) → 4 * y ≤ 4 * (suc n * l) + l → (y * 2 - 1 * l) * 4 ≤ (4 * n + 3) * (2 * l)
    high n y l h = simp (add-mul, mul_assoc, one-mul, mul_left_comm n 2 l) (omega (arith, simp suc-mul at h))

-- from a quarter to three quarters past n
inside : (n u l : ℕ) → (4 * n + 1) * l ≤ u * 4 → u * 4 ≤ (4 * n + 3) * l → 0 < l → (n * l < u) × (u < suc n * l)
inside n u l a b p = (omega (arith, simp (add-mul, mul_assoc, one-mul) at a), simp suc-mul (omega (arith, simp (add-mul, mul_assoc) at b)))

-- ---- a float of at most 1 stays as it is
pub whole : (s : Bool) (n : ℕ) → n ≤ 65536 → HasValue (round binary32 s n 1) s n 1
whole s n h = round_whole binary32 s n (le_trans h (lit≤ tt))

pub half_value : HasValue half false 1 2
half_value = (refl, refl)

-- at most 1, crosswise
one_most : (m u : ℕ) (e : ℤ) → u ≤ unit → m * up e * unit ≡ u * down e → m * up e * 1 ≤ 1 * down e
one_most m u e h v =
    le_of_mul-le-mul_right (le_trans (le_of_eq (ap (λ (z : ℕ). z * unit) (mul-one (m * up e)) ∙ v)) (le_trans (mul-le-mul_right (down e) h) (le_of_eq (mul_comm unit (down e) ∙ ap (λ (z : ℕ). z * unit) (sym (one-mul (down e))))))) (pow_pos 149)

pub not_below : (g : Bool) (x : Float) (u : ℕ) → HasValue x false u unit → lt x (least g) ≡ false
unfolding lt
not_below g nan u v = absurd v
not_below g (inf s) u v = absurd v
not_below g (fin true m e) u v = absurd (true≢false v.0)
not_below false (fin false m e) u v = le-ltb (m * up e * 1) (0 * down e) (le_trans (le_of_eq (zero-mul (down e))) (omega arith))
not_below true (fin false m e) u v = refl

pub not_below_minus_1 : (x : Float) (u : ℕ) → u ≤ unit → HasValue x true u unit → lt x (least true) ≡ false
unfolding lt
not_below_minus_1 nan u h v = absurd v
not_below_minus_1 (inf s) u h v = absurd v
not_below_minus_1 (fin false m e) u h v = absurd (true≢false (sym v.0))
not_below_minus_1 (fin true m e) u h v = le-ltb (1 * down e) (m * up e * 1) (one_most m u e h v.1)

not_above : (x : Float) (s : Bool) (u : ℕ) → u ≤ unit → HasValue x s u unit → lt one x ≡ false
unfolding lt
not_above nan s u h v = absurd v
not_above (inf t) s u h v = absurd v
not_above (fin true m e) s u h v = refl
not_above (fin false m e) s u h v = le-ltb (1 * down e) (m * up e * 1) (one_most m u e h v.1)

-- ---- the code
module _ (g : Bool) (w : ℕ) (sm : scale g w ≤ 65536) (x : Float) (u : ℕ) where
  abbrev pub product : ℕ
  product = units (scale g w * u) unit

  kept : (s : Bool) → lt x (least g) ≡ false → u ≤ unit → HasValue x s u unit → clamped g x ≡ x
  kept s nb h v = simp (nb, not_above x s u h v)

  pub steps : (s : Bool) → clamped g x ≡ x → HasValue x s u unit → HasValue (round binary32 false (scale g w * u) unit) false product unit → stepped g w x ≡ sum binary32 false (1 * unit) s (product * 2) (2 * unit)
  unfolding stepped of_int
  steps s k v p =
      let S = scale g w in
      ap (λ (y : Float). add binary32 half (mul binary32 (round binary32 false S 1) y)) k
      ∙ ap (add binary32 half) (mul_value binary32 (round binary32 false S 1) x false s S 1 u unit (omega arith) (pow_pos 149) (whole false S sm) v ∙ ap (λ (t : Bool). round binary32 t (S * u) unit) (same s))
      ∙ add_value binary32 half (round binary32 s (S * u) unit) false s 1 2 product unit (omega arith) (pow_pos 149) half_value (signed s (S * u) unit product p)
    where
      same : (s : Bool) → unlike false s ≡ s
      same true = refl
      same false = refl

  pub packs_from_0 : (n : ℕ) → n ≤ scale g w → HasValue x false u unit → Near (scale g w) n u → floor_code g w (stepped g w x) ≡ n
  unfolding sum
  packs_from_0 n h v k =
      let t = times n (scale g w * u) (le_trans h sm) k.quarter in
      let p = plus n product (le_trans h sm) t.1 in
      let i = inside n (units (1 * unit + product * 2) (2 * unit)) unit p.low p.high (pow_pos 149) in
      ap (floor_code g w) (steps false (kept false (not_below g x u v) k.small v) v t.0)
      ∙ code_from_0 g w n _ _ h p.value (le_of_lt i.0) i.1

  pub packs_below_0 : (n : ℕ) → suc n ≤ scale g w → suc n ≤ depth g w → lt x (least g) ≡ false → HasValue x true u unit → Near (scale g w) (suc n) u → floor_code g w (stepped g w x) ≡ 2 ^ w - suc n
  unfolding sum
  packs_below_0 n h dp nb v k =
      let t = times (suc n) (scale g w * u) (le_trans h sm) k.quarter in
      let p = less n product (le_of_lt (le_trans h sm)) t.1 in
      let i = inside n (units (product * 2 - 1 * unit) (2 * unit)) unit p.1.low p.1.high (pow_pos 149) in
      ap (floor_code g w) (steps true (kept true nb k.small v) v t.0)
      ∙ ap (λ (b : Bool). floor_code g w (cond b (round binary32 true (product * 2 - 1 * unit) (2 * unit)) (round binary32 false (1 * unit - product * 2) (2 * unit)))) (lt-ltb (1 * unit) (product * 2) p.0)
      ∙ code_below_0 g w n _ _ dp (signed true (product * 2 - 1 * unit) (2 * unit) _ p.1.value) i.0 (le_of_lt i.1)
