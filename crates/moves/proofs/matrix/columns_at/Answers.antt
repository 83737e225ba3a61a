-- `columns` says it of each matrix type. Assumes nothing.
use Rattle.moves.proofs.Transposing.{columns_by}
use Rattle.moves.proofs.matrix.columns_at.Goals as goal

pub returns : goal.returns
returns c = columns_by c.args.p c.requires.0 c.requires.1
