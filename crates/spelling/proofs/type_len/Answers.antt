-- The choices come to `length_by`, which is the length at each place, as one computed test says. Assumes nothing.
use Prim.Native.Nat.{ℕ, ◌+◌, ◌%◌}
use mathlib.Core.Bool.{cond}
use mathlib.Core.Path.{◌≡◌, refl}
use borrow.Author.Rules.{rules}
use borrow.Author.Tests.{eqb-true}
use lib.Dec.{eqb, ltb}
use lib.ListN.{length}
use Rattle.values.specs.Value.{kind_at}
use Rattle.spelling.specs.Types.{spelled}
use Rattle.spelling.proofs.Spellings.{at_most_11}
use Rattle.values.proofs.Tested.{below, below_at}
use Rattle.spelling.proofs.type_len.Goals as goal

abbrev length_by : ℕ → ℕ
length_by p =
    cond (eqb p 0) 0
    (cond (ltb p 6) (cond (eqb ((p + 4) % 5) 0) 4 3)
    (cond (ltb p 21) (cond (eqb ((p + 4) % 5) 0) 10 9) 11))

pub returns : goal.returns
unfolding below kind_at
returns c =
    let p = c.args.p in
    let t = eqb-true _ _ (below_at (λ q. eqb (length_by q) (length (spelled (kind_at q)))) 39 p refl (search rules)) in
    let e : c.choose-4.result ≡ length (spelled (kind_at p)) = rw (c.choose-4.ensures, c.choose-3.ensures, c.choose-2.ensures, c.choose-vector.ensures, c.choose.ensures) t in
    (e, rw e (at_most_11 (kind_at p)))
