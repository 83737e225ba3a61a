use mathlib.Core.Path.{refl}
use Rattle.buffers.proofs.Puts.{put_set}
use Rattle.printing.proofs.put_byte.Goals as goal

pub returns : goal.returns
returns c = (refl, put_set _ _ _ c.requires)
