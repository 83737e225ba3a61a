-- `losses::loss_of` meets its contract: its tests are whether the f32 is finite, its half is and the f32 comes back, and these decide the loss.
-- Assumes nothing.
use borrow.Author.Rules.{rules}
use mathlib.Core.Path.{◌≡◌, sym, ap, ◌∙◌}
use Prim.Native.Nat.{ℕ, ◌%◌, ◌<◌}
use native.Mathlib.Omega.{arith}
use lib.Dec.{eqb}
use borrow.Author.Tests.{eqb-true, eqb-false}
use Rattle.half.specs.Format.{f16, f32, infinity, magnitude}
use Rattle.half.specs.Convert.{half_of, single_of}
use Rattle.losses.proofs.Back.{becomes, finite_half, none_lost, overflowed, exact, rounded}
use Rattle.losses.proofs.loss_of.Goals as goal
use Rattle.losses.proofs.loss_of.Goals.{After-comes_back, Else-bits-ge2139095040, Else-h-eq31744, Start}

-- what is tested of the half, and of what comes back
becomes_is : (c : Start) → c.args.h % 0x8000 ≡ becomes c.args.bits
becomes_is c = ap (λ (h : ℕ). h % 0x8000) c.requires

tested : (c : After-comes_back) → let n = c.args.bits in c.comes_back.result ≡ eqb (single_of (half_of n)) n
tested c = c.comes_back.ensures ∙ ap (λ (h : ℕ). eqb (single_of h) c.args.bits) c.requires

-- what passes the first test is a finite number, and what passes the second became one
finite : (c : Else-bits-ge2139095040) → magnitude f32 c.args.bits < infinity f32
finite c = omega arith

finite_too : (c : Else-h-eq31744) → magnitude f32 c.args.bits < infinity f32 → c.args.h % 0x8000 ≡ becomes c.args.bits → becomes c.args.bits < infinity f16
finite_too c f b = finite_half _ f (λ e. c.if-h-eq31744.false (b ∙ e))

pub returns-then-bits-ge2139095040 : goal.returns-then-bits-ge2139095040
returns-then-bits-ge2139095040 c = sym (none_lost _ (omega arith))

pub returns-then-h-eq31744 : goal.returns-then-h-eq31744
returns-then-h-eq31744 c = sym (overflowed _ (finite (goal.at.returns-then-h-eq31744 c).Else-bits-ge2139095040) (sym (becomes_is (goal.at.returns-then-h-eq31744 c).Start) ∙ c.if-h-eq31744.true))

pub returns-then-comes_back : goal.returns-then-comes_back
returns-then-comes_back c = sym (exact _ (finite (goal.at.returns-then-comes_back c).Else-bits-ge2139095040) (finite_too (goal.at.returns-then-comes_back c).Else-h-eq31744 (finite (goal.at.returns-then-comes_back c).Else-bits-ge2139095040) (becomes_is (goal.at.returns-then-comes_back c).Start)) (eqb-true _ _ (sym (tested (goal.at.returns-then-comes_back c).After-comes_back) ∙ c.if-comes_back.true)))

pub returns : goal.returns
returns c = sym (rounded _ (search rules) (finite (goal.at.returns c).Else-bits-ge2139095040) (finite_too (goal.at.returns c).Else-h-eq31744 (finite (goal.at.returns c).Else-bits-ge2139095040) (becomes_is (goal.at.returns c).Start)) (eqb-false _ _ (sym (tested (goal.at.returns c).After-comes_back) ∙ c.if-comes_back.false)))
