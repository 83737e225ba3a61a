-- One word of a write. Assumes nothing.
use Rattle.buffers.proofs.Puts.{put_set}
use Rattle.builtins.proofs.put_loss.Goals as goal

pub returns : goal.returns
returns c = put_set _ _ _ c.requires
