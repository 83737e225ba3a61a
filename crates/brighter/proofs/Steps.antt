-- What the crate's steps make of a lane within the clamping range: the size of the code, which is within 33 / 64 of scale times the lane's. Both f32 steps round a number below 65537, so each stays between two
-- neighbouring multiples of 1 / 128, which are values of f32 themselves: together they are off by 1 / 64 at most, and rounding down a number that a half was added to by 1 / 2. Assumes nothing.
use mathlib.Core.Path.{◌≡◌, refl, sym, ap, ◌∙◌, subst}
use mathlib.Core.Logic.{inl, inr}
use Prim.Native.Nat.{ℕ, zero, suc, ◌+◌, ◌-◌, ◌*◌, ◌/◌, ◌^◌, ◌≤◌, ◌<◌, zero-le, min}
use native.Mathlib.Nat.{le_trans, le_of_eq, le_of_lt, lt_of_lt_of_le, lt_of_not-le, le_of_suc-le-suc, one-mul, mul-one, zero-mul, mul-zero, suc-mul, mul_comm, mul_assoc, mul_left_comm, add-mul, mul-add, mul-le-mul_left, mul-le-mul_right, div-mul-le_self, div-lt_iff_lt-mul, lt-mul-div-succ}
use native.Mathlib.Omega.{arith}
use mathlib.Core.Bool.{Bool, true, false, cond, true≢false}
use borrow.Author.Tests.{lt-ltb, le-ltb}
use lib.Dec.{lit<, lit≤}
use lib.Pow.{pow_pos}
use lib.Ieee.{Float, nan, inf, fin, binary32, up, round, of_bits}
use lib.Ieee as ieee
use lib.Ieee.Exact.{HasValue}
use Rattle.readings.specs.declared.Reading.TheVariants as In
use Rattle.half.specs.Format as format
use Rattle.half.specs.Format.{f32, magnitude, negative}
use Rattle.half.specs.Nearest.{apart}
use Rattle.half.proofs.Closest.{split}
use Rattle.half.proofs.Library.{bits_value}
use Rattle.norm.specs.Norm.{scale, depth, minus, stepped, floor_code, packed_norm, number}
use Rattle.norm.proofs.Widths.{scale_most}
use Rattle.norm.proofs.Fractions.{unit, units, within, signed}
use Rattle.norm.proofs.Codes.{code_from_0, code_below_0, size_most}
use Rattle.norm.proofs.Steps as norm
use Rattle.exact.specs.Exact.{one}
use Rattle.brighter.specs.Brighter.{Inside, allowed}
use Rattle.brighter.proofs.Numbers as numbers
use Rattle.brighter.proofs.Numbers.{Sized, code_number}
use Rattle.brighter.proofs.Ranges as ranges

-- ---- one step: a / (k l) rounded to r / l
pub record Step (k a r l : ℕ) : Type 0 where
  pub low : 128 * (k * r) ≤ 128 * a + k * l
  pub high : 128 * a ≤ 128 * (k * r) + k * l

step_of : (k a r l q : ℕ) → q * (k * l) ≤ a * 128 → a * 128 ≤ (q + 1) * (k * l) → q * l ≤ r * 128 → r * 128 ≤ (q + 1) * l → Step k a r l
step_of k a r l q x x' y y' =
    let p = go (k * (q * l)) (k * r) (k * l)
    (le_trans (le_of_eq (mul_left_comm k q l)) x)
    (le_trans x' (le_of_eq (simp (add-mul, one-mul, mul_left_comm q k l))))
    (le_trans (mul-le-mul_left k y) (le_of_eq (sym (mul_assoc k r 128))))
    (le_trans (le_of_eq (mul_assoc k r 128)) (le_trans (mul-le-mul_left k y') (le_of_eq (simp (add-mul, one-mul, mul-add))))) in
    record { low = p.0; high = p.1 }
  where
    go : (X R L : ℕ) → X ≤ a * 128 → a * 128 ≤ X + L → X ≤ R * 128 → R * 128 ≤ X + L → (128 * R ≤ 128 * a + L) × (128 * a ≤ 128 * R + L)
    go X R L h i j m = (omega arith, omega arith)

rounds : (k a : ℕ) → 0 < k * unit → a ≤ 65536 * (k * unit) → HasValue (round binary32 false a (k * unit)) false (units a (k * unit)) unit × Step k a (units a (k * unit)) unit
rounds k a P h =
    let b = k * unit in
    let q = a * 128 / b in
    let y : q * b ≤ a * 128 = div-mul-le_self (a * 128) b in
    let y' : a * 128 ≤ (q + 1) * b = le_of_lt (subst (λ (z : ℕ). a * 128 < z) (mul_comm b (q + 1)) (lt-mul-div-succ (a * 128) P)) in
    let few : q < 8388609 = (div-lt_iff_lt-mul P).1 (room a b P h) in
    let r = within 7 (lit≤ tt) a b q (q + 1) P (next q few) y y' in
    (r.value, step_of k a (units a b) unit q y y' r.low r.high)
  where
    room : (a b : ℕ) → 0 < b → a ≤ 65536 * b → a * 128 < 8388609 * b
    room a b P h = omega arith

    next : (q : ℕ) → q < 8388609 → q + 1 < 2 ^ 24
    next q h = omega arith

-- ---- the code of a float by the fraction that it equals, where n is that rounded up
code_below : (g : Bool) (w n r : ℕ) (z : Float) → n ≤ depth g w → HasValue z true r unit → n * unit < r + unit → r ≤ n * unit → floor_code g w z ≡ minus w n
unfolding floor_code
code_below g w n r nan h v lo hi = absurd v
code_below g w n r (inf s) h v lo hi = absurd v
code_below g w n r (fin false m e) h v lo hi = absurd (true≢false (sym v.0))
code_below g w zero r (fin true m e) h v lo hi = ap (minus w) (none _ (depth g w) (size_most m r 0 e v.1 hi))
  where
    none : (a b : ℕ) → a ≤ 0 → min a b ≡ 0
    none a b h = omega arith
code_below g w (suc n) r (fin true m e) h v lo hi = code_below_0 g w n r (fin true m e) h v (past n r unit lo) hi
  where
    past : (n r l : ℕ) → suc n * l < r + l → n * l < r
    past n r l h = omega (arith, suc-mul n l)

-- ---- numbers within 33 / 64 of y / l
pub near_most : (n S y l : ℕ) → 0 < l → y ≤ S * l → 64 * apart (n * l) y ≤ allowed In.Crate * l → n ≤ S
near_most n S y l P h k = le_of_suc-le-suc (lt_of_not-le (λ (g : suc S ≤ n). omega (arith, suc-mul S l, mul-le-mul_right l g)))

-- r / l is y / l and a half, after both steps, and n is that rounded down
near_above : (n y p r l : ℕ) → Step 1 y p l → Step 2 (1 * l + p * 2) r l → n * l ≤ r → r < n * l + l → 64 * apart (n * l) y ≤ allowed In.Crate * l
near_above n y p r l a b lo hi = omega arith

-- r / l is y / l less a half, and n is that rounded up
near_below : (n y p r l : ℕ) → 1 * l < p * 2 → Step 1 y p l → Step 2 (p * 2 - 1 * l) r l → n * l < r + l → r ≤ n * l → 64 * apart (n * l) y ≤ allowed In.Crate * l
near_below n y p r l h a b lo hi = omega arith

-- y / l is at most a half
near_none : (y p l : ℕ) → p * 2 ≤ 1 * l → Step 1 y p l → 64 * apart (0 * l) y ≤ allowed In.Crate * l
near_none y p l h a = omega (arith, zero-mul l)

-- ---- what is rounded down, or up below 0
abbrev pub sum : Bool → ℕ → ℕ
sum s p = cond s (p * 2 - 1 * unit) (1 * unit + p * 2)

abbrev pub Whole : Bool → ℕ → ℕ → ℕ → Type 0
Whole false n r l = (n * l ≤ r) × (r < n * l + l)
Whole true n r l = (n * l < r + l) × (r ≤ n * l)

rounds_none : units 0 (2 * unit) ≤ 0 * unit
rounds_none = le_trans (le_of_eq (sym (mul-one (units 0 (2 * unit))))) (within 0 (lit≤ tt) 0 (2 * unit) 0 0 (pow_pos 150) (lit< tt) zero-le zero-le).high

-- ---- a lane: both steps, and what is rounded down
-- scale times the lane, exactly and after the first step, in units
abbrev pub exactly : Bool → ℕ → ℕ → ℕ
exactly g w x = scale g w * format.units f32 (magnitude f32 x)

abbrev pub product : Bool → ℕ → ℕ → ℕ
product g w x = units (exactly g w x) (1 * unit)

-- the size of the code's number
pub record Found (g : Bool) (w x : ℕ) (s : Bool) : Type 0 where
  pub n : ℕ
  pub near : 64 * apart (n * one) (exactly g w x) ≤ allowed In.Crate * one
  pub code : floor_code g w (ieee.sum binary32 false (1 * unit) s (product g w x * 2) (2 * unit)) ≡ cond s (minus w n) n
  pub whole : Whole s n (units (sum s (product g w x)) (2 * unit)) unit

module _ (g : Bool) (w x : ℕ) (W : 1 ≤ w) (hi : w ≤ 16) (i : Inside g x) where
  abbrev y : ℕ
  y = exactly g w x

  abbrev p : ℕ
  p = product g w x

  y_most : y ≤ scale g w * one
  y_most = mul-le-mul_left (scale g w) (ranges.size_most g x i)

  first : HasValue (round binary32 false y (1 * unit)) false p unit × Step 1 y p unit
  first = rounds 1 y (pow_pos 149) (le_trans y_most (mul-le-mul_right {n = 65536} one (le_trans (scale_most g w hi) (lit≤ tt))))

  steps : stepped g w (of_bits binary32 x) ≡ ieee.sum binary32 false (1 * unit) (negative f32 x) (p * 2) (2 * unit)
  steps = norm.steps g w (le_trans (scale_most g w hi) (lit≤ tt)) (of_bits binary32 x) (format.units f32 (magnitude f32 x)) (negative f32 x) (ranges.float_kept g x i) (bits_value x (ranges.finite g x i)) first.0

  -- ---- the code
  pub sized : (n : ℕ) → 64 * apart (n * one) y ≤ allowed In.Crate * one → Sized g w (negative f32 x) n
  sized n k = record {
    most = near_most n (scale g w) y one (pow_pos 149) y_most k;
    unsigned = λ t. none (near_most n 0 y one (pow_pos 149) (le_of_eq (ap (λ (u : ℕ). scale g w * u) (ranges.unorm_size g x i t) ∙ mul-zero (scale g w))) k);
  }
    where
      none : {n : ℕ} → n ≤ 0 → n ≡ 0
      none h = omega arith

  sum_room : 1 * unit + p * 2 ≤ 65536 * (2 * unit)
  sum_room = go (scale g w) y p unit (scale_most g w hi) y_most first.1
    where
      go : (S y p l : ℕ) → S ≤ 65535 → y ≤ S * l → Step 1 y p l → 1 * l + p * 2 ≤ 65536 * (2 * l)
      go S y p l h k a = let m : S * l ≤ 65535 * l = mul-le-mul_right l h in omega arith

  from_0 : Found g w x false
  unfolding ieee.sum
  from_0 =
      let r = units (1 * unit + p * 2) (2 * unit) in
      let k = rounds 2 (1 * unit + p * 2) (pow_pos 150) sum_room in
      let n = r / unit in
      let lo : n * unit ≤ r = div-mul-le_self r unit in
      let up : r < n * unit + unit = lt_of_lt_of_le (lt-mul-div-succ r (pow_pos 149)) (le_of_eq (next n unit)) in
      let m = near_above n y p r unit first.1 k.1 lo up in
      record {
        n = n;
        near = m;
        code = code_from_0 g w n r _ (near_most n (scale g w) y one (pow_pos 149) y_most m) k.0 lo (lt_of_lt_of_le up (le_of_eq (sym (suc-mul n unit))));
        whole = (lo, up);
      }
    where
      next : (n l : ℕ) → l * (n + 1) ≡ n * l + l
      next n l = mul_comm l (n + 1) ∙ simp (add-mul, one-mul)

  below_0 : negative f32 x ≡ true → Found g w x true
  unfolding ieee.sum
  below_0 e =
      elim (split (1 * unit) (p * 2)) [
        | inl l ↦
            let a = p * 2 - 1 * unit in
            let r = units a (2 * unit) in
            let k = rounds 2 a (pow_pos 150) (le_trans (less (p * 2) unit) sum_room) in
            let n = (r + (unit - 1)) / unit in
            let up = ceiling r n unit (pow_pos 149) (div-mul-le_self (r + (unit - 1)) unit) (lt-mul-div-succ (r + (unit - 1)) (pow_pos 149)) in
            let m = near_below n y p r unit l first.1 k.1 up.0 up.1 in
            record {
              n = n;
              near = m;
              code = ap (λ (b : Bool). floor_code g w (cond b (round binary32 true a (2 * unit)) (round binary32 false (1 * unit - p * 2) (2 * unit)))) (lt-ltb (1 * unit) (p * 2) l)
                  ∙ code_below g w n r (round binary32 true a (2 * unit)) (deep g n (subst (λ (s : Bool). Sized g w s n) e (sized n m))) (signed true a (2 * unit) r k.0) up.0 up.1;
              whole = up;
            }
        | inr h ↦
            let a = 1 * unit - p * 2 in
            let r = units a (2 * unit) in
            let k = rounds 2 a (pow_pos 150) (le_trans (less' (p * 2) unit) sum_room) in
            record {
              n = 0;
              near = near_none y p unit h first.1;
              code = ap (λ (b : Bool). floor_code g w (cond b (round binary32 true (p * 2 - 1 * unit) (2 * unit)) (round binary32 false a (2 * unit)))) (le-ltb (1 * unit) (p * 2) h)
                  ∙ code_from_0 g w 0 r (round binary32 false a (2 * unit)) (omega arith) k.0 (le_trans (le_of_eq (zero-mul unit)) zero-le) (short p r unit (pow_pos 149) k.1);
              whole = subst (λ (a : ℕ). Whole true 0 (units a (2 * unit)) unit) (sym (none (p * 2) unit h)) (within_none (units 0 (2 * unit)) unit (pow_pos 149) rounds_none, rounds_none);
            }
      ]
    where
      none : (a l : ℕ) → a ≤ 1 * l → a - 1 * l ≡ 0
      none a l h = omega arith

      within_none : (r l : ℕ) → 0 < l → r ≤ 0 * l → 0 * l < r + l
      within_none r l P h = omega (arith, zero-mul l)

      less : (a l : ℕ) → a - 1 * l ≤ 1 * l + a
      less a l = omega arith

      less' : (a l : ℕ) → 1 * l - a ≤ 1 * l + a
      less' a l = omega arith

      ceiling : (r n l : ℕ) → 0 < l → n * l ≤ r + (l - 1) → r + (l - 1) < l * (n + 1) → (n * l < r + l) × (r ≤ n * l)
      ceiling r n l P lo hi = let e : l * (n + 1) ≡ n * l + l = mul_comm l (n + 1) ∙ simp (add-mul, one-mul) in (omega arith, omega arith)

      deep : (g : Bool) (n : ℕ) → Sized g w true n → n ≤ depth g w
      deep true n k = omega arith
      deep false n k = le_of_eq (k.unsigned refl)

      short : (p r l : ℕ) → 0 < l → Step 2 (1 * l - p * 2) r l → r < 1 * l
      short p r l P a = omega arith

  pub found : (s : Bool) → negative f32 x ≡ s → Found g w x s
  found false e = from_0
  found true e = below_0 e

  pub stepped_number : (f : Found g w x (negative f32 x)) → number g w (packed_norm g w x) ≡ numbers.signed (negative f32 x) f.n
  unfolding packed_norm
  stepped_number f = ap (λ (z : Float). number g w (floor_code g w z)) steps ∙ ap (number g w) f.code ∙ code_number g w W (negative f32 x) f.n (sized f.n f.near)
