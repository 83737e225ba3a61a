-- `rounding::from_one` meets its contract: its numbers are the format's, and the weight of the point is 2 to the number of digits behind it, which is 1 where there
-- are none. What is lifted and cut off is the magnitude made whole: Ways, Digits. Assumes nothing.
use mathlib.Core.Path.{◌≡◌, sym, ap₂, ◌∙◌}
use mathlib.Core.Bool.{Bool}
use Prim.Native.Nat.{◌-◌, ◌/◌, ◌^◌, ◌<◌}
use native.Mathlib.Nat.{le_trans, le_of_eq, lt_of_lt_of_le, mod-le}
use native.Mathlib.Omega.{arith}
use lib.Pow.{pow_pos, pow_mono}
use Rattle.half.specs.Program.{format}
use Rattle.rounding.specs.Program.{lift}
use Rattle.rounding.proofs.Ways.{lift_most, lifted_cut}
use Rattle.rounding.proofs.Digits.{Numbers, numbers, whole_from}
use Rattle.rounding.proofs.from_one.Goals as goal
use Rattle.rounding.proofs.from_one.Goals.{After-power, After-power-point}

numbers_at : (c : After-power) → Numbers c.args.f.e c.args.f.p c.power-hidden.result c.power.result
numbers_at c = numbers c.args.f.e c.args.f.p c.power-hidden.result c.power.result c.args.f.sized c.power-hidden.ensures c.power.ensures

some : (c : After-power-point) → 0 < c.power-point.result
some c = lt_of_lt_of_le (pow_pos _) (le_of_eq (sym c.power-point.ensures))

pub overflow_add-lifted : goal.overflow_add-lifted
overflow_add-lifted c =
    let a = c.args in
    let z = c.args.f.sized in
    let point = c.power-point.result in
    omega (
      arith,
      lt_of_lt_of_le c.requires (pow_mono {j = 31} z.bits),
      le_trans (le_of_eq c.power-point.ensures) (pow_mono {j = 31} (omega (arith, z.bits))),
      c.lift.ensures,
      lift_most a.nearest a.away (a.m / point) point (some (goal.at.overflow_add-lifted c).After-power-point),
    )

pub returns : goal.returns
returns c g w s i j =
    let a = c.args in
    let N = numbers_at (goal.at.returns c).After-power in
    let h = c.power-hidden.result in
    let o = c.power.result - h in
    let point = c.power-point.result in
    let P : point ≡ 2 ^ (a.f.p - (a.m - o) / h) = c.power-point.ensures ∙ rw (c.saturating_sub-2.ensures, c.saturating_sub.ensures) in
    lifted_cut w s a.m point c.lift.result (some (goal.at.returns c).After-power-point) (c.lift.ensures ∙ ap₂ (λ (x y : Bool). lift x y (a.m / point) point) i j)
    ∙ rw (P, N.unit_is, N.hidden_is) (whole_from w s (format a.f.e a.f.p) N.fields a.m (omega (arith, N.unit_is, N.hidden_is, c.power.ensures)))

pub overflow_sub-one : goal.overflow_sub-one
overflow_sub-one c = omega (arith, numbers_at c)

pub nonzero_div-past : goal.nonzero_div-past
nonzero_div-past c = (numbers_at (goal.at.nonzero_div-past c).After-power).some

pub nonzero_div-m : goal.nonzero_div-m
nonzero_div-m c = some c

pub lift-requires : goal.lift-requires
lift-requires c = some c

pub nonzero_rem-result : goal.nonzero_rem-result
nonzero_rem-result c = some (goal.at.nonzero_rem-result c).After-power-point

pub overflow_sub-result : goal.overflow_sub-result
overflow_sub-result c = mod-le _ _
