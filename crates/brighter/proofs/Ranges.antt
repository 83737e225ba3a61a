-- Lanes within the clamping range: no NaN is there, the size is at most 1, and an unorm lane with its sign set is -0. So clamping leaves them as they are, here
-- and in f32. Assumes nothing.
use mathlib.Core.Path.{◌≡◌, refl, sym, ap, ◌∙◌}
use Prim.Native.Nat.{ℕ, ◌+◌, ◌-◌, ◌≤◌, ◌<◌, min}
use native.Mathlib.Nat.{mod-lt, min-eq_left}
use native.Mathlib.Omega.{arith}
use mathlib.Core.Bool.{Bool, true, false, not, ◌&&◌, cond, false≢true}
use borrow.Author.Tests.{le-ltb}
use lib.Dec.{lit<}
use lib.Pow.{pow_pos}
use lib.Ieee.{Float, binary32, lt, of_bits}
use Rattle.half.specs.Format.{f32, top, infinity, magnitude, negative, is_nan, fields, units, rank}
use Rattle.half.proofs.Sizes.{units_le, units_small}
use Rattle.floats.proofs.Order.{lt_rank}
use Rattle.norm.specs.Norm as norm
use Rattle.norm.specs.Norm.{least, clamped}
use Rattle.exact.specs.Exact.{one, clamped_size}
use Rattle.brighter.specs.Brighter.{first, last, Inside}

-- the ends of the range as floats
pub first_bits : (g : Bool) → of_bits binary32 (first g) ≡ least g
unfolding of_bits
first_bits true = refl
first_bits false = refl

pub last_bits : of_bits binary32 last ≡ norm.one
unfolding of_bits
last_bits = refl

pub first_number : (g : Bool) → is_nan f32 (first g) ≡ false
first_number true = refl
first_number false = refl

module _ (g : Bool) (x : ℕ) (i : Inside g x) where
  -- by the sign
  bounds : (s : Bool) → negative f32 x ≡ s → (magnitude f32 x ≤ 0x3f80_0000) × (s && not g ≡ true → magnitude f32 x ≡ 0)
  bounds s e = go g s (rw e at i.least) (rw e at i.most)
    where
      go : (g s : Bool) → rank f32 (first g) ≤ cond s (top f32 - magnitude f32 x) (top f32 + magnitude f32 x) → cond s (top f32 - magnitude f32 x) (top f32 + magnitude f32 x) ≤ rank f32 last
          → (magnitude f32 x ≤ 0x3f80_0000) × (s && not g ≡ true → magnitude f32 x ≡ 0)
      go g false l h = (omega arith, (λ t. absurd (false≢true t)))
      go true true l h = (omega (arith, mod-lt x {m = top f32} (lit< tt)), (λ t. absurd (false≢true t)))
      go false true l h = let k = mod-lt x {m = top f32} (lit< tt) in (omega arith, (λ t. omega arith))

  pub magnitude_most : magnitude f32 x ≤ 0x3f80_0000
  magnitude_most = (bounds (negative f32 x) refl).0

  pub number : is_nan f32 x ≡ false
  number = le-ltb (infinity f32) (magnitude f32 x) (omega (arith, magnitude_most))

  pub finite : magnitude f32 x < infinity f32
  finite = omega (arith, magnitude_most)

  pub size_most : units f32 (magnitude f32 x) ≤ one
  unfolding fields
  size_most = units_le f32 (magnitude f32 x) 0x3f80_0000 magnitude_most

  pub unorm_size : negative f32 x && not g ≡ true → units f32 (magnitude f32 x) ≡ 0
  unorm_size t = ap (units f32) ((bounds (negative f32 x) refl).1 t) ∙ units_small f32 0 (pow_pos 23)

  pub size_kept : clamped_size g x ≡ units f32 (magnitude f32 x)
  unfolding clamped_size
  size_kept = go (negative f32 x && not g) refl
    where
      go : (b : Bool) → negative f32 x && not g ≡ b → cond b 0 (min (units f32 (magnitude f32 x)) one) ≡ units f32 (magnitude f32 x)
      go true t = sym (unorm_size t)
      go false t = min-eq_left size_most

  -- in f32
  pub float_kept : clamped g (of_bits binary32 x) ≡ of_bits binary32 x
  float_kept =
      let below : lt (of_bits binary32 x) (least g) ≡ false = ap (lt (of_bits binary32 x)) (sym (first_bits g)) ∙ lt_rank x (first g) number (first_number g) ∙ le-ltb (rank f32 x) (rank f32 (first g)) i.least in
      let above : lt norm.one (of_bits binary32 x) ≡ false = ap (λ (y : Float). lt y (of_bits binary32 x)) (sym last_bits) ∙ lt_rank last x refl number ∙ le-ltb (rank f32 last) (rank f32 x) i.most in
      ap (λ (b : Bool). cond b (least g) (cond (lt norm.one (of_bits binary32 x)) norm.one (of_bits binary32 x))) below ∙ ap (λ (b : Bool). cond b norm.one (of_bits binary32 x)) above
