-- Each turn keeps what is known of the starts around those left, and leaves fewer. Assumes nothing.
use native.Mathlib.Omega.{arith}
use Rattle.tables.proofs.Halving.{all_left, after, before, none_left}
use Rattle.tables.proofs.search.Goals as goal

pub loop-n-init : goal.loop-n-init
loop-n-init c = all_left _ _

pub overflow_add-mid : goal.overflow_add-mid
overflow_add-mid c = omega arith

pub offset_bounds-starts-mid : goal.offset_bounds-starts-mid
offset_bounds-starts-mid c = omega arith

pub bounds-starts-mid : goal.bounds-starts-mid
bounds-starts-mid c = omega arith

pub overflow_add-lo : goal.overflow_add-lo
overflow_add-lo c = omega arith

pub overflow_sub-n : goal.overflow_sub-n
overflow_sub-n c = omega arith

pub overflow_sub-n-then-starts-mid : goal.overflow_sub-n-then-starts-mid
overflow_sub-n-then-starts-mid c = omega arith

pub loop-n-smaller-then-starts-mid : goal.loop-n-smaller-then-starts-mid
loop-n-smaller-then-starts-mid c = omega arith

pub loop-n-preserved-then-starts-mid : goal.loop-n-preserved-then-starts-mid
loop-n-preserved-then-starts-mid c = after _ _ _ _ c.loop-n.invariant _ (omega arith) (omega arith)

pub loop-n-smaller : goal.loop-n-smaller
loop-n-smaller c = omega arith

pub loop-n-preserved : goal.loop-n-preserved
loop-n-preserved c = before _ _ _ _ c.loop-n.invariant _ (omega arith) (omega arith)

pub returns : goal.returns
returns c = none_left _ _ _ _ c.loop-n.invariant (omega arith)
