-- Whatever float is packed, the code has w bits and is its own normal code. An unorm code is cut to the scale. A snorm code could only be the least one if
-- the steps went below minus the scale; but a float that is clamped is at least -1, so the product is at least minus the scale, and a half is added to that.
-- Assumes nothing.
use mathlib.Core.Path.{◌≡◌, refl, sym, subst}
use mathlib.Core.Logic.{inl, inr}
use Prim.Native.Nat.{ℕ, zero, suc, ◌+◌, ◌-◌, ◌*◌, ◌/◌, ◌%◌, ◌^◌, ◌≤◌, ◌<◌, min, compare}
use native.Mathlib.Nat.{le_trans, le_of_eq, mul_left_comm, mul-le-mul_left, mul-one, one-mul}
use native.Mathlib.Omega.{arith}
use mathlib.Core.Bool.{Bool, true, false, cond}
use borrow.Author.Tests.{ne_eqb, ltb-false, lt-ltb, le-ltb}
use lib.Dec.{ltb, lit≤}
use lib.IntN.{ℤ}
use lib.Pow.{pow_pos}
use lib.Ieee.{Float, nan, inf, fin, Format, binary32, prec, emax, low, up, down, size, nearest, odd, units, round, unlike, sum, add, mul, lt, of_int, of_bits}
use lib.Ieee.Fits.{round_is, down_pos}
use lib.Ieee.Exact.{HasValue}
use Rattle.half.proofs.Closest.{split}
use Rattle.norm.specs.Norm.{scale, depth, one, half, least, clamped, stepped, minus, floor_code, packed_norm, normal_code}
use Rattle.norm.proofs.Widths.{scale_below, scale_most, twice}
use Rattle.norm.proofs.Fractions as fractions
use Rattle.floats.proofs.Sums.{add_value}
use Rattle.norm.proofs.Fractions.{unit, within, signed, mul_value}
use Rattle.norm.proofs.Codes.{size_most}
use Rattle.norm.proofs.Steps.{whole, half_value}

-- ---- codes that are their own
pub record Normal (g : Bool) (w c : ℕ) : Type 0 where
  pub below : c < 2 ^ w
  pub own : normal_code g w c ≡ c

-- up to the scale, and from minus the scale
pub from_0 : (g : Bool) (w c : ℕ) → c ≤ scale g w → Normal g w c
from_0 false w c h = record { below = omega (arith, scale_below false w); own = refl }
from_0 true w c h = record { below = omega (arith, scale_below true w); own = rw (ne_eqb c (2 ^ (w - 1)) (λ e. omega (arith, pow_pos (w - 1)))) }

pub below_0 : (w n : ℕ) → 1 ≤ w → n ≤ scale true w → Normal true w (minus w n)
below_0 w zero W h = from_0 true w 0 (omega arith)
below_0 w (suc n) W h =
    let full = twice w W in
    record {
      below = omega (arith, pow_pos (w - 1));
      own = rw (ne_eqb (2 ^ w - suc n) (2 ^ (w - 1)) (λ e. omega arith));
    }

least_of : (a c : ℕ) → min a c ≤ c
least_of a c = omega arith

-- ---- floats that are not below 0, or NaN
abbrev Plus : Float → Type 0
Plus nan = Unit {0}
Plus (inf s) = s ≡ false
Plus (fin s m e) = s ≡ false

plus_code : (g : Bool) (w : ℕ) (v : Float) → Plus v → Normal g w (floor_code g w v)
unfolding floor_code
plus_code g w nan p = from_0 g w 0 (omega arith)
plus_code g w (inf s) p = rw p (from_0 g w (scale g w) (omega arith))
plus_code g w (fin s m e) p = rw p (from_0 g w (min (m * up e / down e) (scale g w)) (least_of (m * up e / down e) (scale g w)))

plus_round : (f : Format) (a b : ℕ) → Plus (round f false a b)
unfolding units odd
plus_round f a b =
    let n = a * 2 ^ low f in
    let k = size (n / b) - prec f in
    let u = b * 2 ^ k in
    subst Plus (sym (round_is f false a b)) (rounded (nearest (n / u) (compare (n % u * 2) u)) k)
  where
    kept : (q k : ℕ) → Plus (odd (suc (prec f)) false q k (low f))
    kept zero k = refl
    kept (suc q) k = refl

    rounded : (q k : ℕ) → Plus (units f false q k)
    rounded q k = go (ltb (q * 2 ^ k) (2 ^ (low f + suc (emax f))))
      where
        go : (b : Bool) → Plus (cond b (odd (suc (prec f)) false q k (low f)) (inf false))
        go true = kept q k
        go false = refl

plus_half : (v : Float) → Plus v → Plus (add binary32 half v)
unfolding add sum
plus_half nan p = tt
plus_half (inf s) p = p
plus_half (fin s m e) p = rw p (plus_round binary32 (1 * down e + m * up e * 2) (2 * down e))

-- ---- floats from -1 up
abbrev Clamped : Float → Type 0
Clamped nan = Unit {0}
Clamped (inf s) = ⊥
Clamped (fin false m e) = Unit {0}
Clamped (fin true m e) = m * up e ≤ down e

clamped_is : (x : Float) → Clamped (clamped true x)
unfolding lt
clamped_is nan = tt
clamped_is (inf true) = omega arith
clamped_is (inf false) = tt
clamped_is (fin false m e) = go (ltb (1 * down e) (m * up e * 1))
  where
    go : (b : Bool) → Clamped (cond b one (fin false m e))
    go true = tt
    go false = tt
clamped_is (fin true m e) = go (ltb (1 * down e) (m * up e * 1)) refl
  where
    go : (b : Bool) → ltb (1 * down e) (m * up e * 1) ≡ b → Clamped (cond b (least true) (fin true m e))
    go true h = omega arith
    go false h = omega (arith, ltb-false (1 * down e) (m * up e * 1) h)

-- ---- the steps
times_nan : (x : Float) → mul binary32 x nan ≡ nan
unfolding mul
times_nan nan = refl
times_nan (inf s) = refl
times_nan (fin s m e) = refl

module _ (w : ℕ) (W : 1 ≤ w) (hi : w ≤ 16) where
  abbrev S : ℕ
  S = scale true w

  most : S ≤ 65536
  most = omega (arith, scale_most true w hi)

  -- a float of at least minus the scale
  minus_code : (v : Float) (u : ℕ) → HasValue v true u unit → u ≤ S * unit → Normal true w (floor_code true w v)
  unfolding floor_code
  minus_code nan u v h = absurd v
  minus_code (inf s) u v h = absurd v
  minus_code (fin s m e) u v h = rw v.0 (below_0 w (min ((m * up e + (down e - 1)) / down e) (depth true w)) W (le_trans (first _ _) (size_most m u S e v.1 h)))
    where
      first : (a c : ℕ) → min a c ≤ a
      first a c = omega arith

  -- rounding a fraction of at most S leaves it at most S
  at_most : (a b : ℕ) → 0 < b → a ≤ S * b → HasValue (round binary32 true a b) true (fractions.units a b) unit × (fractions.units a b ≤ S * unit)
  at_most a b B h =
      let r = within 0 (lit≤ tt) a b 0 S B (omega (arith, most)) (omega arith) (le_trans (le_of_eq (mul-one a)) h) in
      (signed true a b (fractions.units a b) r.value, le_trans (le_of_eq (sym (mul-one (fractions.units a b)))) r.high)

  minus_half : (v : Float) (u : ℕ) → HasValue v true u unit → u ≤ S * unit → Normal true w (floor_code true w (add binary32 half v))
  unfolding sum
  minus_half v u k h =
      subst (λ (x : Float). Normal true w (floor_code true w x)) (sym (add_value binary32 half v false true 1 2 u unit (omega arith) (pow_pos 149) half_value k))
      (elim (split (1 * unit) (u * 2)) [
        | inl l ↦
            let r = at_most (u * 2 - 1 * unit) (2 * unit) (pow_pos 150) (less u S unit h) in
            rw (lt-ltb (1 * unit) (u * 2) l) (minus_code (round binary32 true (u * 2 - 1 * unit) (2 * unit)) _ r.0 r.1)
        | inr l ↦ rw (le-ltb (1 * unit) (u * 2) l) (plus_code true w (round binary32 false (1 * unit - u * 2) (2 * unit)) (plus_round binary32 (1 * unit - u * 2) (2 * unit)))
      ])
    where
      less : (u S l : ℕ) → u ≤ S * l → u * 2 - 1 * l ≤ S * (2 * l)
      less u S l h = simp (mul_left_comm S 2 l) (omega arith)

  scaled : (s : Bool) (m : ℕ) (e : ℤ) → mul binary32 (round binary32 false S 1) (fin s m e) ≡ round binary32 (unlike false s) (S * (m * up e)) (1 * down e)
  scaled s m e = mul_value binary32 (round binary32 false S 1) (fin s m e) false s S 1 (m * up e) (down e) (omega arith) (down_pos e) (whole false S most) (refl, refl)

  stepped_code : (y : Float) → Clamped y → Normal true w (floor_code true w (add binary32 half (mul binary32 (round binary32 false S 1) y)))
  stepped_code nan c = rw (times_nan (round binary32 false S 1)) (plus_code true w (add binary32 half nan) (plus_half nan tt))
  stepped_code (inf s) c = absurd c
  stepped_code (fin false m e) c =
      let x = round binary32 false (S * (m * up e)) (1 * down e) in
      rw (scaled false m e) (plus_code true w (add binary32 half x) (plus_half x (plus_round binary32 (S * (m * up e)) (1 * down e))))
  stepped_code (fin true m e) c =
      let r = at_most (S * (m * up e)) (1 * down e) (omega (arith, down_pos e)) (product S (m * up e) (down e) c) in
      rw (scaled true m e) (minus_half (round binary32 true (S * (m * up e)) (1 * down e)) _ r.0 r.1)
    where
      product : (S a d : ℕ) → a ≤ d → S * a ≤ S * (1 * d)
      product S a d h = subst (λ (z : ℕ). S * a ≤ S * z) (sym (one-mul d)) (mul-le-mul_left S h)

unorm_code : (w : ℕ) (v : Float) → Normal false w (floor_code false w v)
unfolding floor_code
unorm_code w nan = from_0 false w 0 (omega arith)
unorm_code w (inf true) = from_0 false w 0 (omega arith)
unorm_code w (inf false) = from_0 false w (scale false w) (omega arith)
unorm_code w (fin true m e) = subst (λ (n : ℕ). Normal false w (minus w n)) (sym (none ((m * up e + (down e - 1)) / down e))) (from_0 false w 0 (omega arith))
  where
    none : (a : ℕ) → min a 0 ≡ 0
    none a = omega arith
unorm_code w (fin false m e) = plus_code false w (fin false m e) refl

pub packed : (g : Bool) (w x : ℕ) → 1 ≤ w → w ≤ 16 → Normal g w (packed_norm g w x)
unfolding packed_norm stepped of_int
packed false w x lo hi = unorm_code w (stepped false w (of_bits binary32 x))
packed true w x lo hi = stepped_code w lo hi (clamped true (of_bits binary32 x)) (clamped_is (of_bits binary32 x))
