-- `exponent::leading` meets its contract: a subnormal is moved by the zeros before its first digit, and a normal number has its leading digit put back.
-- Assumes nothing.
use Rattle.std.proofs.Common.{◌≡◌, ℕ, ◌+◌, ◌-◌, ◌*◌, ◌%◌, ◌^◌, ◌<◌, ◌≤◌, sym, subst, le_trans, le_of_eq, lt_of_lt_of_le, arith, pow_mono}
use lib.Count.{count_leading_zeros}
use Rattle.half.proofs.Leading.{zeros, leading}
use Rattle.exponent.specs.Leads.{Leads}
use Rattle.exponent.proofs.FirstDigits.{leads_low, leads_full}
use Rattle.exponent.proofs.leading.Goals as goal
use Rattle.exponent.proofs.leading.Goals.{Then-m-hidden}

subnormal : (p m : ℕ) → p < 31 → 0 < m → m < 2 ^ p → Leads p m (m * 2 ^ (count_leading_zeros 32 m + p - 31) % 2 ^ 32) (32 - count_leading_zeros 32 m)
subnormal p m k n h =
    let l = count_leading_zeros 32 m in
    let z = zeros p m n h (omega arith) in
    let d = leading p m (l + p - 31) n (lt_of_lt_of_le h (pow_mono {i = p} {j = 32} (omega arith))) (omega arith) (back l p z.0) in
    subst (λ (x : ℕ). Leads p m x (32 - l)) (sym d.shifted) (leads_low p m (l + p - 31) (32 - l) h d.low d.high (omega (arith, z.0, z.1)))
  where
    back : (l p : ℕ) → 32 ≤ l + p → l + p ≡ l + p - 31 + 31
    back l p h = omega arith

below : (c : Then-m-hidden) → c.args.m < 2 ^ c.args.p
below c = lt_of_lt_of_le c.if-m-hidden.true (le_of_eq c.power-hidden.ensures)

first : (c : Then-m-hidden) → (32 ≤ count_leading_zeros 32 c.args.m + c.args.p) × (count_leading_zeros 32 c.args.m ≤ 31)
first c = zeros c.args.p c.args.m c.requires.1 (below c) (omega arith)

pub overflow_sub-result : goal.overflow_sub-result
overflow_sub-result c = omega (arith, (first c).0)

pub returns-then-m-hidden : goal.returns-then-m-hidden
returns-then-m-hidden c = subnormal c.args.p c.args.m c.requires.0 c.requires.1 (below c)

pub returns-else-m-hidden : goal.returns-else-m-hidden
returns-else-m-hidden c = rw c.power-hidden.ensures (leads_full c.args.p c.args.m (le_trans (le_of_eq (sym c.power-hidden.ensures)) c.if-m-hidden.false))
