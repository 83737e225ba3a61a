-- Packing what a code unpacks to gives its normal code, for every width from 3 to 16, signed or not; so two codes unpack alike exactly when their normal codes are
-- equal. What a code unpacks to is a pattern of f32 and no NaN. Assumes nothing.
use mathlib.Core.Path.{◌≡◌, refl, sym, ap, ◌∙◌}
use mathlib.Core.Logic.{◌↔◌}
use Prim.Native.Nat.{ℕ, suc, ◌^◌, ◌≤◌, ◌<◌}
use native.Mathlib.Omega.{arith}
use mathlib.Core.Bool.{Bool, true, false}
use lib.Dec.{T}
use lib.IntN.{pos}
use lib.Ieee as ieee
use lib.Ieee.{Float, nan, inf, fin, binary32, fits, round, div, lt, of_int, to_bits}
use lib.Ieee.Bits.{of_bits-to_bits, to_bits-lt}
use lib.Ieee.Fits.{round-fits, cond-fits, div-fits}
use lib.Ieee.Exact.{HasValue}
use Rattle.half.specs.Format.{f32, is_nan}
use Rattle.floats.proofs.Nan.{float_test}
use Rattle.norm.specs.Norm.{scale, least, number, floor_code, stepped, packed_norm, unpacked_norm, normal_code}
use Rattle.norm.proofs.Widths.{scale_most, scale_some}
use Rattle.norm.proofs.Fractions.{unit, units, signed}
use Rattle.norm.proofs.Steps.{Near, near, packs_from_0, packs_below_0}
use Rattle.norm.proofs.Lanes.{from_0, below_0, lane_of, unpacks_as_normal}

least_fits : (g : Bool) → T (fits binary32 (least g))
unfolding fits
least_fits false = tt
least_fits true = tt

pub unpacked_below : (g : Bool) (w c : ℕ) → unpacked_norm g w c < 2 ^ 32
unfolding unpacked_norm
unpacked_below g w c =
    let q = div binary32 (of_int binary32 (number g w c)) (of_int binary32 (pos (scale g w))) in
    to_bits-lt binary32 _ (cond-fits binary32 (lt q (least g)) (least g) q (least_fits g) (div-fits binary32 (of_int binary32 (number g w c)) (of_int binary32 (pos (scale g w)))))

-- packing the pattern of a rounded fraction is packing that
packed_round : (g : Bool) (w c : ℕ) (s : Bool) (n : ℕ) → unpacked_norm g w c ≡ to_bits binary32 (round binary32 s n (scale g w)) → packed_norm g w (unpacked_norm g w c) ≡ floor_code g w (stepped g w (round binary32 s n (scale g w)))
unfolding packed_norm
packed_round g w c s n e = ap (packed_norm g w) e ∙ ap (λ (x : Float). floor_code g w (stepped g w x)) (of_bits-to_bits binary32 (round binary32 s n (scale g w)) (round-fits binary32 s n (scale g w)))

number_of : (g : Bool) (w c : ℕ) (s : Bool) (n : ℕ) → unpacked_norm g w c ≡ to_bits binary32 (round binary32 s n (scale g w)) → HasValue (round binary32 s n (scale g w)) s (units n (scale g w)) unit → is_nan f32 (unpacked_norm g w c) ≡ false
unfolding ieee.is_nan
number_of g w c s n e v =
    ap (is_nan f32) e ∙ sym (float_test (to_bits binary32 x)) ∙ ap ieee.is_nan (of_bits-to_bits binary32 x (round-fits binary32 s n (scale g w))) ∙ finite x s (units n (scale g w)) unit v
  where
    x : Float
    x = round binary32 s n (scale g w)

    finite : (x : Float) (s : Bool) (a b : ℕ) → HasValue x s a b → ieee.is_nan x ≡ false
    finite nan s a b v = absurd v
    finite (inf t) s a b v = absurd v
    finite (fin t m e) s a b v = refl

module _ (g : Bool) (w : ℕ) (lo : 3 ≤ w) (hi : w ≤ 16) where
  most : scale g w ≤ 65536
  most = omega (arith, scale_most g w hi)

  close : (n : ℕ) → n ≤ scale g w → HasValue (round binary32 false n (scale g w)) false (units n (scale g w)) unit × Near (scale g w) n (units n (scale g w))
  close n h = near (scale g w) n (scale_some g w (omega arith)) most h

  below : (n : ℕ) → n ≤ scale g w → HasValue (round binary32 true n (scale g w)) true (units n (scale g w)) unit
  below n h = signed true n (scale g w) (units n (scale g w)) (close n h).0

  pub trip : (c : ℕ) → c < 2 ^ w → packed_norm g w (unpacked_norm g w c) ≡ normal_code g w c
  trip c h =
      elim (lane_of w lo hi g c h) [
        | from_0 n r ↦
            packed_round g w c false n r.lane
            ∙ packs_from_0 g w most (round binary32 false n (scale g w)) (units n (scale g w)) n r.most (close n r.most).0 (close n r.most).1
            ∙ sym r.code
        | below_0 n r ↦
            packed_round g w c true (suc n) r.lane
            ∙ packs_below_0 g w most (round binary32 true (suc n) (scale g w)) (units (suc n) (scale g w)) n r.most r.deep r.kept (below (suc n) r.most) (close (suc n) r.most).1
            ∙ sym r.code
      ]

  pub unpacked_number : (c : ℕ) → c < 2 ^ w → is_nan f32 (unpacked_norm g w c) ≡ false
  unpacked_number c h =
      elim (lane_of w lo hi g c h) [
        | from_0 n r ↦ number_of g w c false n r.lane (close n r.most).0
        | below_0 n r ↦ number_of g w c true (suc n) r.lane (below (suc n) r.most)
      ]

  pub unpack_alike : (c d : ℕ) → c < 2 ^ w → d < 2 ^ w → (unpacked_norm g w c ≡ unpacked_norm g w d) ↔ (normal_code g w c ≡ normal_code g w d)
  unpack_alike c d hc hd = (
    (λ e. sym (trip c hc) ∙ ap (packed_norm g w) e ∙ trip d hd),
    (λ e. sym (unpacks_as_normal w lo hi g c) ∙ ap (unpacked_norm g w) e ∙ unpacks_as_normal w lo hi g d),
  )
