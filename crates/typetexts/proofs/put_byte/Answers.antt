-- One entry set is a write of one byte. Assumes nothing.
use Rattle.buffers.proofs.Puts.{put_set}
use Rattle.typetexts.proofs.put_byte.Goals as goal

pub returns : goal.returns
returns c = put_set _ _ _ c.requires
