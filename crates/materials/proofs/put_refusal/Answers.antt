-- One word of a write. Assumes nothing.
use native.Mathlib.Omega.{arith}
use Rattle.buffers.proofs.Puts.{put_set}
use Rattle.materials.proofs.put_refusal.Goals as goal

pub returns : goal.returns
returns c = put_set _ _ _ (omega arith)
