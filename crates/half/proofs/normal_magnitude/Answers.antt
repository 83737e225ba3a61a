-- `half::normal_magnitude` meets its contract: what it returns has the normal half's size, and no other magnitude has. Assumes nothing.
use borrow.Author.Rules.{rules}
use mathlib.Core.Path.{◌≡◌, sym, ap, ◌∙◌}
use native.Mathlib.Omega.{arith}
use Prim.Native.Nat.{ℕ, ◌+◌, ◌-◌, ◌*◌, ◌/◌, ◌%◌, ◌^◌, ◌≤◌, ◌<◌}
use native.Mathlib.Nat.{mul_assoc}
use lib.Pow.{pow-add}
use Rattle.half.specs.Format.{f16, f32, units}
use Rattle.half.specs.Convert.{converted_magnitude}
use Rattle.half.proofs.Sizes.{units_full}
use Rattle.half.proofs.Single.{of_size}
use Rattle.half.proofs.normal_magnitude.Goals as goal

normal : (m : ℕ) → 0x400 ≤ m → m < 0x7c00 → m * 8192 + 0x3800_0000 ≡ converted_magnitude f16 f32 m
normal m h l =
    let e = m / 0x400 in
    let t = 0x400 + m % 0x400 in
    of_size m (m * 8192 + 0x3800_0000) l
    (ap (units f32) (wide m h)
    ∙ units_full f32 (e + 111) (t * 2 ^ 13) (omega arith) (omega arith)
    ∙ mul_assoc t (2 ^ 13) (2 ^ (e + 111))
    ∙ ap (λ (x : ℕ). t * x) (sym (pow-add 2 13 (e + 111)) ∙ ap (λ (x : ℕ). 2 ^ x) (moved e (omega arith)) ∙ pow-add 2 (e - 1) 125)
    ∙ sym (mul_assoc t (2 ^ (e - 1)) (2 ^ 125))
    ∙ ap (λ (x : ℕ). x * 2 ^ 125) (sym (ap (units f16) (joined m h) ∙ units_full f16 (e - 1) t (omega arith) (omega arith))))
  where
    wide : (m : ℕ) → 0x400 ≤ m → m * 8192 + 0x3800_0000 ≡ (m / 0x400 + 111) * 0x80_0000 + (0x400 + m % 0x400) * 8192
    wide m h = omega arith

    joined : (m : ℕ) → 0x400 ≤ m → m ≡ (m / 0x400 - 1) * 0x400 + (0x400 + m % 0x400)
    joined m h = omega arith

    moved : (e : ℕ) → 1 ≤ e → 13 + (e + 111) ≡ e - 1 + 125
    moved e h = omega arith

pub returns : goal.returns
returns c = ((λ h l. normal _ h l), search rules)
