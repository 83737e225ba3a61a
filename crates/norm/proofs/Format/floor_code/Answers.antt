-- `norm::Format::floor_code` meets its contract: from 0 up the size is rounded down, below 0 it is rounded up, and a NaN is neither. Assumes nothing.
use mathlib.Core.Path.{sym, ap, ◌∙◌, subst}
use Prim.Native.Nat.{ℕ, min}
use native.Mathlib.Nat.{le_trans}
use native.Mathlib.Omega.{arith}
use lib.Dec.{T}
use lib.Ieee.{binary32, of_bits}
use lib.Ieee.Fits.{neg-fits}
use Rattle.norm.specs.Norm as Norm
use Rattle.norm.proofs.Widths.{full_most, scale_most, depth_below}
use Rattle.norm.proofs.Sizes.{floor_up, negated, floor_down, floor_none}
use Rattle.norm.proofs.Format.floor_code.Goals as goal

pub size_down-requires : goal.size_down-requires
unfolding of_bits
size_down-requires c = (subst T (sym c.if-v.true) tt, c.requires)

pub size_up-requires : goal.size_up-requires
unfolding of_bits
size_up-requires c = (negated _ (subst T (sym c.if-v-2.true) tt), neg-fits binary32 c.args.v c.requires)

pub minus-requires : goal.minus-requires
minus-requires c =
    omega (arith, depth_below c.args.self.signed c.args.self.w)

pub returns-then-v : goal.returns-then-v
unfolding of_bits
returns-then-v c =
    let a = c.args in
    c.min.ensures
    ∙ ap (λ (n : ℕ). min n c.scale.result) c.size_down.ensures
    ∙ ap (min _) c.scale.ensures
    ∙ floor_up a.self.signed a.self.w a.v (omega (arith, scale_most a.self.signed a.self.w c.args.self.widths.1)) (subst T (sym c.if-v.true) tt)

pub returns-then-v-2 : goal.returns-then-v-2
unfolding of_bits
returns-then-v-2 c =
    let a = c.args in
    c.minus.ensures
    ∙ ap (Norm.minus a.self.w) (c.min-then-v-2.ensures ∙ ap (λ (n : ℕ). min n c.depth.result) c.size_up.ensures ∙ ap (min _) c.depth.ensures)
    ∙ floor_down a.self.signed a.self.w a.v (le_trans (depth_below a.self.signed a.self.w) (full_most a.self.w c.args.self.widths.1)) (subst T (sym c.if-v-2.true) tt)

pub returns-else-v-2 : goal.returns-else-v-2
unfolding of_bits
returns-else-v-2 c =
    let a = c.args in
    floor_none a.self.signed a.self.w a.v c.if-v.false c.if-v-2.false
