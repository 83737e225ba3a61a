-- `turns` says it of each matrix type. Assumes nothing.
use Rattle.moves.proofs.Transposing.{turns}
use Rattle.moves.proofs.matrix.turned_at.Goals as goal

pub returns : goal.returns
returns c = turns c.args.p c.requires.0 c.requires.1
