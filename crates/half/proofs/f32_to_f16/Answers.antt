-- `half::f32_to_f16` meets its contract: its test is that of the definition, and a half's magnitude leaves room for the sign.
-- Assumes nothing.
use borrow.Author.Rules.{rules}
use mathlib.Core.Path.{ap}
use Prim.Native.Nat.{ℕ, ◌+◌, ◌%◌}
use native.Mathlib.Omega.{arith}
use borrow.Author.Tests.{lt-ltb, le-ltb}
use Rattle.half.specs.Format.{f16, f32}
use Rattle.half.specs.Convert.{converted, converted_magnitude}
use Rattle.half.proofs.Signs.{sign_moved}
use Rattle.half.proofs.Conversion.{converted_most}
use Rattle.half.proofs.f32_to_f16.Goals as goal

pub returns-then-m-gt2139095040 : goal.returns-then-m-gt2139095040
unfolding converted
returns-then-m-gt2139095040 c = simp (lt-ltb _ _ c.if-m-gt2139095040.true)

pub overflow_add-result : goal.overflow_add-result
overflow_add-result c = omega (arith, converted_most f32 f16 (c.args.n % 0x8000_0000))

pub overflow_cast-result : goal.overflow_cast-result
overflow_cast-result c = omega (arith, converted_most f32 f16 (c.args.n % 0x8000_0000))

pub returns : goal.returns
unfolding converted
returns c =
    let n = c.args.n in
    simp (le-ltb _ _ c.if-m-gt2139095040.false) (rw c.half_magnitude.ensures (ap (λ (s : ℕ). s + converted_magnitude f32 f16 (n % 0x8000_0000)) (sign_moved f32 f16 n (search rules))))
