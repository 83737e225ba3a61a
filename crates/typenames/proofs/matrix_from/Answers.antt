-- The tests and the place are those of `matrix_from`. Assumes nothing.
use Prim.Native.Nat.{◌≤◌}
use mathlib.Core.Path.{◌≡◌}
use lib.ListN.{get_or}
use native.Mathlib.Omega.{arith}
use lib.Dec.{eqb}
use Rattle.typenames.specs.Program.{matrix_from}
use Rattle.typenames.proofs.TypeTexts.{most, size_right, scalar_right, matrix_below}
use Rattle.typenames.proofs.matrix_from.Goals as goal
use Rattle.typenames.proofs.matrix_from.Goals.{After-choose}

nine : (c : After-choose) → c.choose.result ≤ 9
nine c = rw c.choose.ensures (most (eqb c.scalar_by-p.result 5) 9)

pub returns : goal.returns
returns c =
    let t = c.args.bytes in
    let e : c.choose-2.result ≡ matrix_from t = rw (c.choose-2.ensures, c.choose.ensures, c.scalar_by-p.ensures.0, c.size_by-r.ensures.0, c.size_by-c.ensures.0) in
    (e, rw e (matrix_below t _ _ _ (size_right (get_or t 3 0)).0 (size_right (get_or t 5 0)).0 (scalar_right t 7).0))

pub overflow_add-choose : goal.overflow_add-choose
overflow_add-choose c = omega (arith, nine c)

pub overflow_add-choose-2 : goal.overflow_add-choose-2
overflow_add-choose-2 c = omega (arith, nine c)

pub overflow_add-choose-3 : goal.overflow_add-choose-3
overflow_add-choose-3 c = omega (arith, nine c)
