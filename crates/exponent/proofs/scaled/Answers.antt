-- `exponent::scaled` meets its contract: the power is added to the count of digits or taken from it, and where more is taken than there is the
-- result is below half a unit. Assumes nothing.
use Rattle.std.proofs.Common.{◌≡◌, ℕ, suc, ◌+◌, ◌-◌, ◌*◌, ◌<◌, sym, ap, ◌∙◌, arith, le-ltb, lt-ltb}
use lib.Ieee.{up, down}
use Rattle.half.specs.Format.{f32, units, magnitude_of}
use Rattle.exponent.specs.Exponent.{integer}
use Rattle.exponent.proofs.Times.{down_pos, magnitude_zero, times_up, times_down, times_none}
use Rattle.exponent.proofs.scaled.Goals as goal

taken_off : (s j : ℕ) → j < s → s ≡ s - 1 - j + suc j
taken_off s j h = omega arith

pub returns-then-m-eq0 : goal.returns-then-m-eq0
returns-then-m-eq0 c =
    let z = integer c.args.n in
    sym (ap (λ (m : ℕ). magnitude_of f32 (units f32 m * up z) (down z)) c.if-m-eq0.true ∙ magnitude_zero f32 (up z) (down z) (down_pos z))

pub returns-then-n-lt2147483648 : goal.returns-then-n-lt2147483648
returns-then-n-lt2147483648 c =
    let a = c.args in
    let d = c.leading-d in
    rw (lt-ltb a.n 0x8000_0000 c.if-n-lt2147483648.true) (c.placed.ensures ∙ sym (times_up f32 a.m d.result.first d.result.count d.ensures a.n))

pub returns-then-count-n : goal.returns-then-count-n
returns-then-count-n c =
    let a = c.args in
    let d = c.leading-d in
    let j = 0xffff_ffff - a.n in
    rw (le-ltb a.n 0x8000_0000 c.if-n-lt2147483648.false)
    (c.placed-then-count-n.ensures ∙ sym (times_down f32 a.m d.result.first d.result.count d.ensures j (d.result.count - 1 - j) (taken_off d.result.count j c.if-count-n.true)))

pub returns-else-count-n : goal.returns-else-count-n
returns-else-count-n c =
    let a = c.args in
    let d = c.leading-d in
    rw (le-ltb a.n 0x8000_0000 c.if-n-lt2147483648.false) (sym (times_none f32 a.m d.result.first d.result.count d.ensures (0xffff_ffff - a.n) c.if-count-n.false))
