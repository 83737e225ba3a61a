-- `rows` says it of each matrix type. Assumes nothing.
use Rattle.moves.proofs.Transposing.{rows_by}
use Rattle.moves.proofs.matrix.rows_at.Goals as goal

pub returns : goal.returns
returns c = rows_by c.args.p c.requires.0 c.requires.1
