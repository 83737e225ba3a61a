-- The numbers of a format of at most 16 bits are small. Powers of two grow. Assumes nothing.
use mathlib.Core.Path.{◌≡◌, ap, ◌∙◌}
use Prim.Native.Nat.{ℕ, suc, ◌+◌, ◌-◌, ◌*◌, ◌^◌, ◌≤◌, ◌<◌}
use native.Mathlib.Nat.{pow-succ'}
use native.Mathlib.Omega.{arith}
use mathlib.Core.Bool.{Bool, true, false}
use lib.Pow.{pow_pos, pow_mono}
use Rattle.norm.specs.Norm.{scale, depth}

pub full_most : (w : ℕ) → w ≤ 16 → 2 ^ w ≤ 65536
full_most w h = pow_mono h

half_most : (w : ℕ) → 2 ^ (w - 1) ≤ 2 ^ w
half_most w = pow_mono (omega arith)

pub scale_below : (g : Bool) (w : ℕ) → scale g w < 2 ^ w
scale_below false w = omega (arith, pow_pos w)
scale_below true w = omega (arith, pow_pos (w - 1), half_most w)

pub scale_most : (g : Bool) (w : ℕ) → w ≤ 16 → scale g w ≤ 65535
scale_most g w h = omega (arith, scale_below g w, full_most w h)

pub scale_some : (g : Bool) (w : ℕ) → 2 ≤ w → 0 < scale g w
scale_some false w h = let two : 2 ^ 2 ≤ 2 ^ w = pow_mono h in omega arith
scale_some true w h = let one : 2 ^ 1 ≤ 2 ^ (w - 1) = pow_mono {i = 1} (omega arith) in omega arith

pub depth_below : (g : Bool) (w : ℕ) → depth g w ≤ 2 ^ w
depth_below false w = omega arith
depth_below true w = half_most w

-- there are twice as many codes as the least signed one's number
pub twice : (w : ℕ) → 1 ≤ w → 2 ^ w ≡ 2 ^ (w - 1) + 2 ^ (w - 1)
twice w h = ap (λ (n : ℕ). 2 ^ n) (next w h) ∙ pow-succ' 2 (w - 1) ∙ double (2 ^ (w - 1))
  where
    next : (w : ℕ) → 1 ≤ w → w ≡ suc (w - 1)
    next w h = omega arith

    double : (n : ℕ) → 2 * n ≡ n + n
    double n = omega arith
