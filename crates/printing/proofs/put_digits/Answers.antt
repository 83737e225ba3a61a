-- One digit more is written before those that stand; none is left at the end. Assumes nothing.
use mathlib.Core.Path.{◌≡◌, refl, sym, ◌∙◌}
use native.Mathlib.Omega.{arith}
use Rattle.printing.specs.Decimal.{digits}
use Rattle.buffers.proofs.Puts.{put_nil}
use Rattle.printing.proofs.Digits.{digit_turn}
use Rattle.printing.proofs.put_digits.Goals as goal

pub loop-i-preserved : goal.loop-i-preserved
loop-i-preserved c =
    let l = c.loop-i in
    l.invariant ∙ rw c.digit_byte.ensures (digit_turn l.out c.args.at l.i l.rest (omega arith) (omega arith))

pub returns : goal.returns
unfolding digits
returns c =
    let l = c.loop-i in
    let z : l.i ≡ 0 = omega arith in
    (refl, sym (l.invariant ∙ rw z (put_nil l.out c.args.at)))
