-- `norm::Format::number` meets its contract: a negative number's float is its size's, negated. Assumes nothing.
use borrow.Author.Tests.{le-ltb}
use mathlib.Core.Path.{◌≡◌, sym, ap, ◌∙◌}
use mathlib.Core.Bool.{Bool, true, false, cond}
use Prim.Native.Nat.{ℕ, suc, ◌-◌, ◌^◌, ◌<◌}
use native.Mathlib.Omega.{arith}
use lib.Dec.{ltb}
use lib.IntN.{pos, negsuc}
use lib.Ieee.{binary32, of_int, neg, round}
use Rattle.norm.specs.Norm as Norm
use Rattle.norm.proofs.Signs.{round_neg}
use Rattle.norm.proofs.Format.number.Goals as goal

negated : (n c : ℕ) → c < n → neg (of_int binary32 (pos (n - c))) ≡ of_int binary32 (negsuc (n - suc c))
unfolding of_int
negated n c h = sym (round_neg binary32 false (n - c) 1) ∙ ap (λ (k : ℕ). round binary32 true k 1) (next n c h)
  where
    next : (n c : ℕ) → c < n → n - c ≡ suc (n - suc c)
    next n c h = omega arith

at : (w c : ℕ) (below : Bool) → ltb c (2 ^ (w - 1)) ≡ below → of_int binary32 (Norm.number true w c) ≡ of_int binary32 (cond below (pos c) (negsuc (2 ^ w - suc c)))
at w c below e = rw e

pub returns-else-c-power : goal.returns-else-c-power
returns-else-c-power c =
    let a = c.args in
    rw c.if-self.true
    (ap neg (c.whole-else-c-power.ensures ∙ ap (λ (n : ℕ). of_int binary32 (pos (n - a.c))) c.power-else-c-power.ensures)
    ∙ negated (2 ^ a.self.w) a.c (omega arith)
    ∙ sym (at a.self.w a.c false (le-ltb a.c (2 ^ (a.self.w - 1)) (omega arith))))
