-- `norm::whole_part` meets its contract: from 1 up the size is the digits times a power of two, and 1 is a higher one. Assumes nothing.
use mathlib.Core.Path.{◌≡◌, sym, ap, ap₂, ◌∙◌}
use Prim.Native.Nat.{ℕ, suc, ◌+◌, ◌-◌, ◌*◌, ◌/◌, ◌%◌, ◌^◌, ◌≤◌, ◌<◌}
use native.Mathlib.Nat.{div-eq_of_lt, div-add-mod', mod-lt, mul-div-mul_right}
use native.Mathlib.Omega.{arith}
use lib.Pow.{pow_pos, pow-add}
use Rattle.half.specs.Format.{f32, fields, units}
use Rattle.half.proofs.Sizes.{units_full, units_lt}
use Rattle.norm.proofs.whole_part.Goals as goal

below_1 : (m : ℕ) → m < 0x3f80_0000 → 0 ≡ units f32 m / 2 ^ 149
unfolding fields
below_1 m h = sym (div-eq_of_lt (units_lt f32 m 0x3f80_0000 h))

from_1 : (m e : ℕ) → m / 0x80_0000 ≡ suc e → e ≤ 149 → (m % 0x80_0000 + 0x80_0000) / 2 ^ (149 - e) ≡ units f32 m / 2 ^ 149
from_1 m e h l =
    let q = m % 0x80_0000 + 0x80_0000 in
    let H : 0 < 0x80_0000 = omega arith in
    let joined : m ≡ e * 0x80_0000 + q = omega (arith, div-add-mod' m 0x80_0000, ap (λ (x : ℕ). x * 0x80_0000) h) in
    let size : units f32 m ≡ q * 2 ^ e = ap (units f32) joined ∙ units_full f32 e q (omega arith) (omega (arith, mod-lt m H)) in
    let places : 149 ≡ 149 - e + e = omega arith in
    let one : 2 ^ 149 ≡ 2 ^ (149 - e) * 2 ^ e = ap (λ (x : ℕ). 2 ^ x) places ∙ pow-add 2 (149 - e) e in
    sym (ap₂ (λ (a c : ℕ). a / c) size one ∙ mul-div-mul_right q (2 ^ (149 - e)) (pow_pos e))

pub returns-then-m-lt1065353216 : goal.returns-then-m-lt1065353216
returns-then-m-lt1065353216 c = below_1 _ c.if-m-lt1065353216.true

pub returns : goal.returns
returns c =
    let m = c.args.n % 0x8000_0000 in
    let e = m / 0x80_0000 - 1 in
    ap (λ (x : ℕ). (m % 0x80_0000 + 0x80_0000) / 2 ^ x) (moved m c.if-m-lt1065353216.false) ∙ from_1 m e (next m c.if-m-lt1065353216.false) (few m c.requires)
  where
    next : (m : ℕ) → 0x3f80_0000 ≤ m → m / 0x80_0000 ≡ suc (m / 0x80_0000 - 1)
    next m h = omega arith

    moved : (m : ℕ) → 0x3f80_0000 ≤ m → 150 - m / 0x80_0000 ≡ 149 - (m / 0x80_0000 - 1)
    moved m h = omega arith

    few : (m : ℕ) → m < 0x4780_0000 → m / 0x80_0000 - 1 ≤ 149
    few m h = omega arith
