-- `rounding::whole_magnitude` meets its contract: its numbers are the format's, and of the two results the one that the magnitude's side of 1 asks for is
-- chosen. Assumes nothing.
use mathlib.Core.Path.{ap, ap₂, ◌∙◌}
use mathlib.Core.Logic.{inl, inr}
use mathlib.Core.Bool.{Bool}
use Prim.Native.Nat.{ℕ, ◌+◌, ◌-◌, ◌*◌}
use native.Mathlib.Nat.{lt_of_lt_of_le}
use native.Mathlib.Omega.{arith}
use borrow.Author.Tests.{lt-ltb, le-ltb}
use lib.Dec.{leb}
use lib.Pow.{pow_mono}
use Rattle.half.specs.Program.{format}
use Rattle.half.proofs.Closest.{split}
use Rattle.rounding.specs.Program.{lift}
use Rattle.rounding.proofs.Ways.{lift_most, lifted}
use Rattle.rounding.proofs.Digits.{Numbers, numbers, whole_small}
use Rattle.rounding.proofs.whole_magnitude.Goals as goal
use Rattle.rounding.proofs.whole_magnitude.Goals.{After-power}

numbers_at : (c : After-power) → Numbers c.args.f.e c.args.f.p c.power-hidden.result c.power.result
numbers_at c = numbers c.args.f.e c.args.f.p c.power-hidden.result c.power.result c.args.f.sized c.power-hidden.ensures c.power.ensures

pub overflow_add-m : goal.overflow_add-m
overflow_add-m c =
    let a = c.args in
    let z = c.args.f.sized in
    let N = numbers_at (goal.at.overflow_add-m c).After-power in
    let half = 2 * (c.power.result - c.power-hidden.result - c.power-hidden.result) in
    omega (arith, N, lt_of_lt_of_le c.requires (pow_mono {j = 31} z.bits), c.lift.ensures, lift_most a.nearest a.away 0 half (omega (arith, N)))

pub returns : goal.returns
returns c w s i j =
    let a = c.args in
    let N = numbers_at (goal.at.returns c).After-power in
    let t = c.power in
    let h = c.power-hidden in
    let o = t.result - h.result in
    let two = 2 * (o - h.result) in
    elim (split a.m o) [
      | inl g ↦
          let rise = ap (λ (x : ℕ). leb two (a.m + x)) (c.lift.ensures ∙ ap₂ (λ (x y : Bool). lift x y 0 two) i j) ∙ lifted w s 0 a.m two (omega (arith, N)) in
          c.choose.ensures
          ∙ rw (lt-ltb a.m o g) (c.choose-below.ensures ∙ rw (rise, N.unit_is, N.hidden_is) (whole_small w s (format a.f.e a.f.p) N.fields a.m (rw N.unit_is at g)))
      | inr g ↦ c.choose.ensures ∙ rw (le-ltb a.m o g) (c.from_one-from.ensures (omega (arith, t.ensures, h.ensures)) w s i j)
    ]

pub overflow_sub-one : goal.overflow_sub-one
overflow_sub-one c = omega (arith, numbers_at c)

pub overflow_sub-c : goal.overflow_sub-c
overflow_sub-c c = omega (arith, numbers_at c)

pub overflow_mul-c : goal.overflow_mul-c
overflow_mul-c c = omega (arith, numbers_at c)

pub lift-requires : goal.lift-requires
lift-requires c = omega (arith, numbers_at c)
