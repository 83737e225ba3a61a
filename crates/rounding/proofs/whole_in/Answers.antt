-- `rounding::whole_in` meets its contract: its numbers are the format's, so that what it chooses is the definition's case, and every magnitude made whole leaves
-- room for the sign. Assumes nothing.
use mathlib.Core.Path.{◌≡◌, ◌∙◌}
use mathlib.Core.Bool.{Bool, true, false, cond}
use Prim.Native.Nat.{ℕ, ◌+◌, ◌-◌, ◌%◌, ◌^◌, ◌≤◌, ◌<◌}
use native.Mathlib.Nat.{le_trans, le_of_eq, lt_of_lt_of_le, mod-lt}
use native.Mathlib.Omega.{arith}
use lib.Dec.{leb}
use lib.Pow.{pow_pos, pow_mono, pow-add}
use Rattle.half.specs.Format.{hidden, top, infinity}
use Rattle.half.specs.Program.{format}
use Rattle.half.proofs.Signs.{top_is, infinity_below}
use Rattle.rounding.specs.Rounding.{whole_magnitude, whole}
use Rattle.rounding.specs.Program.{Sized}
use Rattle.rounding.proofs.Results.{whole_below}
use Rattle.rounding.proofs.whole_in.Goals as goal
use Rattle.rounding.proofs.whole_in.Goals.{After-power-top, After-whole_magnitude}

-- h is the leading digit's weight and t the sign's
record Numbers (e p h t : ℕ) : Type 0 where
  hidden_is : h ≡ hidden (format e p)
  top_is : t ≡ top (format e p)
  infinity_is : t - h ≡ infinity (format e p)
  some : (0 < h) × (h ≤ t) × (t ≤ 0x8000_0000)

numbers : (e p h t : ℕ) → Sized e p → h ≡ 2 ^ p → t ≡ 2 ^ (e + p) → Numbers e p h t
numbers e p h t z i g =
    let T : t ≡ top (format e p) = g ∙ pow-add 2 e p in
    let sum = top_is (format e p) in
    record { hidden_is = i; top_is = T; infinity_is = omega arith; some = (omega (arith, pow_pos p), omega arith, le_trans (le_of_eq g) (pow_mono {j = 31} z.bits)) }

numbers_at : (c : After-power-top) → Numbers c.args.f.e c.args.f.p c.power-hidden.result c.power-top.result
numbers_at c = numbers c.args.f.e c.args.f.p c.power-hidden.result c.power-top.result c.args.f.sized c.power-hidden.ensures c.power-top.ensures

pub whole_magnitude-requires : goal.whole_magnitude-requires
whole_magnitude-requires c =
    let t = c.power-top in
    lt_of_lt_of_le (mod-lt _ (omega (arith, numbers_at (goal.at.whole_magnitude-requires c).After-power-top))) (le_of_eq t.ensures)

made : (c : After-whole_magnitude)
    → let a = c.args in
    let t = c.power-top.result in
    c.whole_magnitude.result ≡ whole_magnitude a.way (leb t a.x) (format a.f.e a.f.p) (a.x % t)
made c = c.whole_magnitude.ensures _ _ c.is_round.ensures c.is_away.ensures

pub returns : goal.returns
unfolding whole
returns c =
    let N = numbers_at (goal.at.returns c).After-power-top in
    c.choose-3.ensures ∙ rw (c.choose-2.ensures, made (goal.at.returns c).After-whole_magnitude, c.choose.ensures, N.infinity_is, N.top_is, N.hidden_is)

pub overflow_add-r : goal.overflow_add-r
overflow_add-r c =
    let a = c.args in
    let f = format a.f.e a.f.p in
    let t = c.power-top.result in
    let N = numbers_at (goal.at.overflow_add-r c).After-power-top in
    let r = whole_below f a.way (leb t a.x) (a.x % t) c.args.f.sized.deep (top f) (omega (arith, infinity_below f)) (lt_of_lt_of_le (mod-lt a.x (omega (arith, N))) (le_of_eq N.top_is)) in
    omega (arith, N, made c, r, chosen (leb t a.x) t c.choose.result c.choose.ensures)
  where
    chosen : (b : Bool) (t r : ℕ) → r ≡ cond b t 0 → r ≤ t
    chosen true t r e = le_of_eq e
    chosen false t r e = omega arith

pub overflow_sub-infinity : goal.overflow_sub-infinity
overflow_sub-infinity c = omega (arith, numbers_at c)

pub nonzero_rem-m : goal.nonzero_rem-m
nonzero_rem-m c = omega (arith, numbers_at c)
