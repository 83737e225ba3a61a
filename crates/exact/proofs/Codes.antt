-- The code of a lane that is no NaN: n, or minus n below 0, where n is within a half of scale times the clamped size. So it has w bits and is its own normal code.
-- Assumes nothing.
use mathlib.Core.Path.{◌≡◌, refl, sym, ap, ◌∙◌, subst}
use Prim.Native.Nat.{ℕ, zero, suc, ◌+◌, ◌-◌, ◌*◌, ◌%◌, ◌^◌, ◌≤◌, ◌<◌, zero-le, min}
use native.Mathlib.Nat.{le_trans, lt_of_le_of_lt, suc-mul, mul-zero, sub-zero, mul-le-mul_left, mul-le-mul_right, min-le_right, mod_self, mod-eq_of_lt, add-mod_left, lt_of_not-le, le_of_suc-le-suc}
use native.Mathlib.Omega.{arith}
use mathlib.Core.Bool.{Bool, true, false, not, ◌&&◌, cond}
use lib.Pow.{pow_pos}
use Rattle.half.specs.Format.{f32, magnitude, negative, is_nan, units}
use Rattle.norm.specs.Norm.{scale, minus}
use Rattle.norm.proofs.Widths.{scale_below}
use Rattle.norm.proofs.Normal.{Normal, from_0, below_0}
use Rattle.exact.specs.Exact.{one, clamped_size, floor_half, exact_code}
use Rattle.exact.proofs.Floor.{Near, Place, place_of_lem}

-- ---- sizes
pub size_at_most_1 : (g : Bool) (x : ℕ) → clamped_size g x ≤ one
unfolding clamped_size
size_at_most_1 g x = go (negative f32 x && not g) (units f32 (magnitude f32 x))
  where
    go : (b : Bool) (u : ℕ) → cond b 0 (min u one) ≤ one
    go true u = zero-le
    go false u = min-le_right u one

pub none_below : (g : Bool) (x : ℕ) → negative f32 x && not g ≡ true → clamped_size g x ≡ 0
unfolding clamped_size
none_below g x e = rw e

near_none : (n a d : ℕ) → 0 < d → Near n a d → a ≡ 0 → n ≡ 0
near_none zero a d D k e = refl
near_none (suc n) a d D k e = absurd (omega (arith, suc-mul n d))

near_most : (n S z d : ℕ) → 0 < d → z ≤ d → Near n (S * z) d → n ≤ S
near_most n S z d D h k = le_of_suc-le-suc (lt_of_not-le (λ (g : suc S ≤ n). omega (arith, suc-mul S d, mul-le-mul_right d g, mul-le-mul_left S h)))

-- ---- codes
code_of : (w : ℕ) (s : Bool) (a d : ℕ) (p : Place (2 ^ w) s a d) → p.n < 2 ^ w → floor_half (2 ^ w) s a d ≡ cond s (minus w p.n) p.n
unfolding floor_half
code_of w s a d p h = ap (λ (q : ℕ). q % 2 ^ w) p.place ∙ go s p.n h
  where
    go : (s : Bool) (n : ℕ) → n < 2 ^ w → cond s (2 ^ w - n) (2 ^ w + n) % 2 ^ w ≡ cond s (minus w n) n
    go false n h = add-mod_left (2 ^ w) n ∙ mod-eq_of_lt h
    go true zero h = ap (λ (q : ℕ). q % 2 ^ w) (sub-zero (2 ^ w)) ∙ mod_self (2 ^ w)
    go true (suc n) h = mod-eq_of_lt {n = 2 ^ w - suc n} (omega arith)

-- it has w bits and is its own normal code
normal : (g : Bool) (w : ℕ) → 1 ≤ w → (s : Bool) (n : ℕ) → n ≤ scale g w → (s && not g ≡ true → n ≡ 0) → Normal g w (cond s (minus w n) n)
normal g w W false n h z = from_0 g w n h
normal true w W true n h z = below_0 w n W h
normal false w W true n h z = rw (z refl) (from_0 false w 0 (omega arith))

-- ---- a lane's code
pub record Code (g : Bool) (w x : ℕ) : Type 0 where
  pub place : Place (2 ^ w) (negative f32 x) (scale g w * clamped_size g x) one
  pub most : place.n ≤ scale g w
  pub unsigned : negative f32 x && not g ≡ true → place.n ≡ 0
  pub code : exact_code g w x ≡ cond (negative f32 x) (minus w place.n) place.n

pub code : (g : Bool) (w x : ℕ) → is_nan f32 x ≡ false → Code g w x
unfolding exact_code
code g w x e =
    let S = scale g w in
    let z = clamped_size g x in
    let p = place_of_lem (2 ^ w) (S * z) one (pow_pos 149) (le_trans (mul-le-mul_left S (size_at_most_1 g x)) (mul-le-mul_right one (below (scale_below g w)))) (negative f32 x) in
    let most = near_most p.n S z one (pow_pos 149) (size_at_most_1 g x) p.near in
    record {
      place = p;
      most = most;
      unsigned = λ t. nothing p.n t p.near;
      code = rw e (code_of w (negative f32 x) (S * z) one p (lt_of_le_of_lt most (scale_below g w)));
    }
  where
    below : {a b : ℕ} → a < b → a ≤ b
    below h = omega arith

    nothing : (n : ℕ) → negative f32 x && not g ≡ true → Near n (scale g w * clamped_size g x) one → n ≡ 0
    nothing n t k = near_none n (scale g w * clamped_size g x) one (pow_pos 149) k (ap (λ (z : ℕ). scale g w * z) (none_below g x t) ∙ mul-zero (scale g w))

-- ---- every lane's code, a NaN's too, has w bits and is its own normal code
pub exact_normal : (g : Bool) (w x : ℕ) → 1 ≤ w → Normal g w (exact_code g w x)
unfolding exact_code
exact_normal g w x W = go (is_nan f32 x) refl
  where
    nan_code : is_nan f32 x ≡ true → exact_code g w x ≡ 0
    nan_code e = rw e

    go : (b : Bool) → is_nan f32 x ≡ b → Normal g w (exact_code g w x)
    go true e = subst (Normal g w) (sym (nan_code e)) (from_0 g w 0 (omega arith))
    go false e = let k = code g w x e in subst (Normal g w) (sym k.code) (normal g w W (negative f32 x) k.place.n k.most k.unsigned)
