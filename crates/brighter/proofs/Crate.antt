-- The crate's reading. A lane packs as the end of the range that it is clamped to, or as itself; and within the range each f32 step keeps the order of sizes, since rounding does.
-- How far the code is from the lane is what Steps has of it. Assumes nothing.
use mathlib.Core.Path.{◌≡◌, refl, sym, ap, ◌∙◌}
use Prim.Native.Nat.{ℕ, suc, ◌+◌, ◌-◌, ◌*◌, ◌^◌, ◌≤◌, ◌<◌, min, max}
use native.Mathlib.Nat.{le_trans, le_of_eq, le_of_suc-le-suc, lt_of_not-le, mul-zero, suc-mul, mul-le-mul_left, mul-le-mul_right, mod-lt}
use native.Mathlib.Omega.{arith}
use mathlib.Core.Bool.{Bool, true, false, cond}
use borrow.Author.Tests.{ltb-true, ltb-false}
use lib.Dec.{T, ltb, lit<, lit≤}
use lib.Pow.{pow_pos}
use lib.IntN.{pos}
use lib.Signed.{le_z}
use lib.Ieee.{Float, binary32, add, mul, of_int, of_bits}
use Rattle.half.specs.Format as format
use Rattle.half.specs.Format.{f32, top, magnitude, negative, is_nan, pattern, rounded, rank}
use Rattle.half.proofs.Sizes.{units_le, units_small, units_pattern}
use Rattle.half.proofs.Rounding.{dropped, uncapped_mono, rounded_placed}
use Rattle.floats.proofs.Order.{lt_rank}
use Rattle.norm.specs.Norm.{scale, half, clamped, stepped, floor_code, packed_norm, number}
use Rattle.norm.proofs.Widths.{scale_below}
use Rattle.norm.proofs.Fractions.{unit, units}
use Rattle.exact.specs.Exact.{one}
use Rattle.readings.specs.declared.Reading.TheVariants as In
use Rattle.brighter.specs.Brighter.{norm, NeverDarker, first, last, Inside, Close}
use Rattle.brighter.proofs.Numbers.{signed_order, far}
use Rattle.brighter.proofs.Ranges as ranges
use Rattle.brighter.proofs.Ranges.{first_bits, last_bits, first_number}
use Rattle.brighter.proofs.Steps.{Whole, sum, exactly, product, Found, near_most, sized, found, stepped_number}

-- ---- rounding keeps the order of sizes
units_mono : (a c b : ℕ) → 0 < b → a ≤ c → units a b ≤ units c b
units_mono a c b B h =
    le_trans (le_of_eq (sym (back a)))
    (le_trans (units_le f32 (pattern f32 (rounded f32 (a * 2 ^ 149) b)) (pattern f32 (rounded f32 (c * 2 ^ 149) b)) (uncapped_mono f32 (a * 2 ^ 149) b (c * 2 ^ 149) b B B (mul-le-mul_right b (mul-le-mul_right (2 ^ 149) h))))
    (le_of_eq (back c)))
  where
    back : (a : ℕ) → format.units f32 (pattern f32 (rounded f32 (a * 2 ^ 149) b)) ≡ units a b
    back a = unfold rounded in units_pattern f32 (dropped f32 (a * 2 ^ 149) b) _ (rounded_placed f32 (a * 2 ^ 149) b).most

-- ---- and so does rounding down, or up
whole_mono : (s : Bool) (n m r q l : ℕ) → r ≤ q → Whole s n r l → Whole s m q l → n ≤ m
whole_mono false n m r q l h a b = le_of_suc-le-suc (lt_of_not-le (λ (g : suc m ≤ n). let c = mul-le-mul_right l g in omega (arith, suc-mul m l, a.0, a.1, b.0, b.1)))
whole_mono true n m r q l h a b = le_of_suc-le-suc (lt_of_not-le (λ (g : suc m ≤ n). let c = mul-le-mul_right l g in omega (arith, suc-mul m l, a.0, a.1, b.0, b.1)))

sum_mono : (s : Bool) (p q : ℕ) → p ≤ q → sum s p ≤ sum s q
sum_mono false p q h = go unit
  where
    go : (l : ℕ) → 1 * l + p * 2 ≤ 1 * l + q * 2
    go l = omega arith
sum_mono true p q h = go unit
  where
    go : (l : ℕ) → p * 2 - 1 * l ≤ q * 2 - 1 * l
    go l = omega arith

-- ---- lanes within the range
module _ (g : Bool) (w : ℕ) (W : 1 ≤ w) (hi : w ≤ 16) where
  size_mono : (x y : ℕ) (s : Bool) → magnitude f32 x ≤ magnitude f32 y → (a : Found g w x s) (b : Found g w y s) → a.n ≤ b.n
  size_mono x y s h a b =
      whole_mono s a.n b.n _ _ unit
      (units_mono (sum s (product g w x)) (sum s (product g w y)) (2 * unit) (pow_pos 150) (sum_mono s (product g w x) (product g w y) (units_mono (exactly g w x) (exactly g w y) (1 * unit) (pow_pos 149) (mul-le-mul_left (scale g w) (units_le f32 (magnitude f32 x) (magnitude f32 y) h)))))
      a.whole b.whole

  size_none : (x : ℕ) (s : Bool) → magnitude f32 x ≡ 0 → (a : Found g w x s) → a.n ≤ 0
  size_none x s e a = near_most a.n 0 (exactly g w x) one (pow_pos 149) (le_of_eq (ap (λ (m : ℕ). scale g w * format.units f32 m) e ∙ ap (λ (u : ℕ). scale g w * u) (units_small f32 0 (pow_pos 23)) ∙ mul-zero (scale g w))) a.near

  inside_order : (x y : ℕ) → Inside g x → Inside g y → rank f32 x ≤ rank f32 y → T (le_z (number g w (packed_norm g w x)) (number g w (packed_norm g w y)))
  inside_order x y i j h =
      let a = found g w x W hi i (negative f32 x) refl in
      let b = found g w y W hi j (negative f32 y) refl in
      let k = most x i a in
      let l = most y j b in
      rw (stepped_number g w x W hi i a, stepped_number g w y W hi j b)
      (signed_order (2 ^ w) a.n b.n (negative f32 x) (negative f32 y) (room (negative f32 x) k) (room (negative f32 y) l) (by_signs (negative f32 x) (negative f32 y) a b k l h))
    where
      most : (x : ℕ) (i : Inside g x) (a : Found g w x (negative f32 x)) → a.n ≤ 2 ^ w
      most x i a = omega (arith, (sized g w x W hi i a.n a.near).most, scale_below g w)

      room : (s : Bool) {n : ℕ} → n ≤ 2 ^ w → cond s n 0 ≤ 2 ^ w
      room true h = h
      room false h = omega arith

      by_signs : (s t : Bool) (a : Found g w x s) (b : Found g w y t) → a.n ≤ 2 ^ w → b.n ≤ 2 ^ w → cond s (top f32 - magnitude f32 x) (top f32 + magnitude f32 x) ≤ cond t (top f32 - magnitude f32 y) (top f32 + magnitude f32 y)
          → cond s (2 ^ w - a.n) (2 ^ w + a.n) ≤ cond t (2 ^ w - b.n) (2 ^ w + b.n)
      by_signs false false a b k l h = omega (arith, size_mono x y false (omega arith) a b)
      by_signs true true a b k l h = omega (arith, size_mono y x true (omega (arith, mod-lt x {m = top f32} (lit< tt), mod-lt y {m = top f32} (lit< tt))) b a)
      by_signs true false a b k l h = omega arith
      by_signs false true a b k l h = omega (arith, size_none x false (omega arith) a, size_none y true (omega (arith, mod-lt y {m = top f32} (lit< tt))) b)

-- ---- every lane packs as one within the range
abbrev kept : Bool → ℕ → ℕ
kept g x = cond (ltb (rank f32 x) (rank f32 (first g))) (first g) (cond (ltb (rank f32 last) (rank f32 x)) last x)

ends : (g : Bool) → rank f32 (first g) ≤ rank f32 last
ends true = lit≤ tt
ends false = lit≤ tt

kept_rank : (g : Bool) (x : ℕ) → rank f32 (kept g x) ≡ max (rank f32 (first g)) (min (rank f32 last) (rank f32 x))
kept_rank g x = go (ltb (rank f32 x) (rank f32 (first g))) (ltb (rank f32 last) (rank f32 x)) refl refl
  where
    go : (a b : Bool) → ltb (rank f32 x) (rank f32 (first g)) ≡ a → ltb (rank f32 last) (rank f32 x) ≡ b → rank f32 (cond a (first g) (cond b last x)) ≡ max (rank f32 (first g)) (min (rank f32 last) (rank f32 x))
    go true b e f = omega (arith, ends g, ltb-true (rank f32 x) (rank f32 (first g)) e)
    go false true e f = omega (arith, ends g, ltb-true (rank f32 last) (rank f32 x) f)
    go false false e f = omega (arith, ltb-false (rank f32 x) (rank f32 (first g)) e, ltb-false (rank f32 last) (rank f32 x) f)

kept_inside : (g : Bool) (x : ℕ) → Inside g (kept g x)
kept_inside g x = record { least = omega (arith, kept_rank g x); most = omega (arith, kept_rank g x, ends g) }

kept_mono : (g : Bool) (x y : ℕ) → rank f32 x ≤ rank f32 y → rank f32 (kept g x) ≤ rank f32 (kept g y)
kept_mono g x y h = rw (kept_rank g x, kept_rank g y) (omega arith)

kept_float : (g : Bool) (x : ℕ) → is_nan f32 x ≡ false → clamped g (of_bits binary32 x) ≡ of_bits binary32 (kept g x)
kept_float g x e =
    rw (← first_bits g, ← last_bits, lt_rank x (first g) e (first_number g), lt_rank last x refl e)
    (push (ltb (rank f32 x) (rank f32 (first g))) (ltb (rank f32 last) (rank f32 x)))
  where
    push : (a b : Bool) → cond a (of_bits binary32 (first g)) (cond b (of_bits binary32 last) (of_bits binary32 x)) ≡ of_bits binary32 (cond a (first g) (cond b last x))
    push true b = refl
    push false true = refl
    push false false = refl

kept_packs : (g : Bool) (w x : ℕ) → is_nan f32 x ≡ false → packed_norm g w x ≡ packed_norm g w (kept g x)
unfolding packed_norm stepped
kept_packs g w x e = ap (λ (z : Float). floor_code g w (add binary32 half (mul binary32 (of_int binary32 (pos (scale g w))) z))) (kept_float g x e ∙ sym (ranges.float_kept g (kept g x) (kept_inside g x)))

module _ (g : Bool) (w : ℕ) (W : 1 ≤ w) (hi : w ≤ 16) where
  pub crate_never_darker : NeverDarker In.Crate (norm g w)
  crate_never_darker x y o = rw (kept_packs g w x o.number, kept_packs g w y o.other_number) (inside_order g w W hi (kept g x) (kept g y) (kept_inside g x) (kept_inside g y) (kept_mono g x y o.below))

  pub crate_close : Close In.Crate g w
  crate_close x i =
      let f = found g w x W hi i (negative f32 x) refl in
      rw (stepped_number g w x W hi i f, far (negative f32 x) f.n one (scale g w) (format.units f32 (magnitude f32 x))) f.near
