-- The tests and the place are those of `vector_from`. Assumes nothing.
use mathlib.Core.Path.{◌≡◌}
use lib.ListN.{get_or}
use Rattle.typenames.specs.Program.{vector_from}
use Rattle.typenames.proofs.TypeTexts.{size_right, scalar_right, vector_below}
use Rattle.typenames.proofs.vector_from.Goals as goal

pub returns : goal.returns
returns c =
    let t = c.args.bytes in
    let e : c.choose.result ≡ vector_from t = rw (c.choose.ensures, c.after_scalar.ensures, c.scalar_by-p.ensures.0, c.size_by-n.ensures.0) in
    (e, rw e (vector_below t _ _ (size_right (get_or t 3 0)).0 (scalar_right t 5).0))
