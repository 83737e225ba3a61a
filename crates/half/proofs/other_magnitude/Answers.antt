-- `half::other_magnitude` meets its contract: what is chosen is what the half's own kind gives. Assumes nothing.
use mathlib.Core.Bool.{Bool, true, false, cond}
use mathlib.Core.Path.{◌≡◌, refl, sym, ap, ◌∙◌}
use native.Mathlib.Omega.{arith}
use Prim.Native.Nat.{ℕ, ◌<◌}
use borrow.Author.Tests.{eqb-true, eqb-false}
use lib.Dec.{eqb}
use Rattle.half.specs.Format.{f16, f32, fields}
use Rattle.half.specs.Convert.{converted_magnitude}
use Rattle.half.proofs.Conversion.{infinite_is}
use Rattle.half.proofs.Single.{of_size}
use Rattle.half.proofs.other_magnitude.Goals as goal

nought : (m : ℕ) → m ≡ 0 → 0 ≡ converted_magnitude f16 f32 m
unfolding fields
nought m e = of_size 0 0 (omega arith) refl ∙ ap (converted_magnitude f16 f32) (sym e)

abbrev Right : ℕ → ℕ → Type 0
Right m r = (m < 1024 → r ≡ converted_magnitude f16 f32 m) × (m ≡ 0x7c00 → r ≡ converted_magnitude f16 f32 m) × (r < 0x8000_0000)

-- a choice by a test is right where each side is
chosen : (m a b : ℕ) (t : Bool) → (t ≡ true → Right m a) → (t ≡ false → Right m b) → Right m (cond t a b)
chosen m a b true f g = f refl
chosen m a b false f g = g refl

right : (m s : ℕ) → (0 < m → m < 1024 → s ≡ converted_magnitude f16 f32 m) × (s < 0x8000_0000) → Right m (cond (eqb m 0x7c00) 0x7f80_0000 (cond (eqb m 0) 0 s))
right m s es =
    chosen m 0x7f80_0000 (cond (eqb m 0) 0 s) (eqb m 0x7c00)
    (λ t. ((λ h. absurd (omega (arith, eqb-true m 0x7c00 t, h))), (λ h. sym (infinite_is f16 f32 m (omega (arith, h)))), omega arith))
    (λ t. chosen m 0 s (eqb m 0) (λ v. ((λ h. nought m (eqb-true m 0 v)), (λ h. nought m (eqb-true m 0 v)), omega arith))
    (λ v. ((λ h. es.0 (positive m (eqb-false m 0 v)) h), (λ h. absurd (eqb-false m 0x7c00 t h)), es.1)))
  where
    positive : (m : ℕ) → (m ≡ 0 → ⊥) → 0 < m
    positive m h = omega arith

pub returns : goal.returns
returns c =
    let m = c.args.m in
    rw (c.choose.ensures, c.choose-small.ensures) (right m c.subnormal_magnitude.result c.subnormal_magnitude.ensures)
