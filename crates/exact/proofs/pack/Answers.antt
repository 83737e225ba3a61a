-- `exact::pack` meets its contract: the lanes that it sends off give 0, and the fraction that it makes of the others is the definition's. Assumes nothing.
use mathlib.Core.Path.{sym, ◌∙◌}
use Prim.Native.Nat.{ℕ, ◌-◌, ◌*◌, ◌/◌, ◌≤◌}
use native.Mathlib.Nat.{le_trans, le_of_eq, mul-le-mul}
use native.Mathlib.Omega.{arith}
use lib.Pow.{pow_pos, pow_mono}
use Rattle.norm.proofs.Widths.{scale_most, scale_below, full_most}
use Rattle.exact.proofs.Magnitudes.{nothing, something, digits_most}
use Rattle.exact.proofs.pack.Goals as goal

few : (a b : ℕ) → a ≤ 65535 → b ≤ 0x100_0000 → a * b ≤ 65535 * 0x100_0000
few a b h k = mul-le-mul h k

pub returns-then-m-negative : goal.returns-then-m-negative
returns-then-m-negative c = sym (nothing c.args.f.signed c.args.f.w c.args.x c.args.f.widths.1 c.if-m-negative.true)

pub overflow_mul-scale : goal.overflow_mul-scale
overflow_mul-scale c = omega (arith, few c.scale.result c.digits.result (omega (arith, scale_most c.args.f.signed c.args.f.w c.args.f.widths.1)) (omega arith))

pub power-requires-2 : goal.power-requires-2
power-requires-2 c = omega (arith, (something c.args.f.signed c.args.f.w c.args.x c.if-m-negative.false).0)

pub floor_half-requires : goal.floor_half-requires
floor_half-requires c =
    let g = c.args.f.signed in
    let w = c.args.f.w in
    let m = c.min-c.result in
    let full = full_most w c.args.f.widths.1 in
    let low = (something g w c.args.x c.if-m-negative.false).0 in (
      omega (arith, pow_pos w),
      omega arith,
      omega (arith, pow_pos (150 - m / 0x80_0000)),
      le_trans (le_of_eq c.power-2.ensures) (pow_mono {j = 42} (omega arith)),
      mul-le-mul (omega (arith, scale_below g w)) (omega (arith, digits_most m (omega arith))),
    )

pub returns : goal.returns
returns c =
    c.floor_half.ensures
    ∙ rw (c.power-2.ensures, c.digits.ensures, c.scale.ensures, c.power.ensures, c.min-c.ensures)
    (sym (something c.args.f.signed c.args.f.w c.args.x c.if-m-negative.false).1)
