-- What is moved is what the buffer holds. Assumes nothing.
use mathlib.Core.Path.{ap, sym, ◌∙◌}
use native.Mathlib.Nat.{min-le_right}
use native.Mathlib.Omega.{arith}
use lib.ListN.{length}
use Rattle.buffers.specs.Memory.{put}
use Rattle.buffers.proofs.Puts.{put_nil}
use Rattle.cutting.proofs.Buffer.{length_held, held_none, held_pasted}
use Rattle.cutting.proofs.carry.Goals as goal

pub returns-then-at-end : goal.returns-then-at-end
returns-then-at-end c =
    let a = c.args in
    let z = held_none a.buf.now a.at a.have (omega arith) in
    (sym (ap length z), sym (ap (put a.buf.now 0) z ∙ put_nil a.buf.now 0), omega arith)

pub returns : goal.returns
returns c =
    let a = c.args in
    let n = length_held a.buf.now a.at a.have in
    (omega (arith, n), c.copy_within.ensures.after ∙ held_pasted a.buf.now a.at a.have (omega arith) (omega arith), omega (arith, min-le_right a.have (length a.buf.now)))
