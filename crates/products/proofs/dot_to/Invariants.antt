-- The invariant: the sum is the definition's up to lane i. Assumes nothing.
use Rattle.std.proofs.Common.{◌≡◌, get_or}
use Rattle.products.specs.Products.{summed}
use Rattle.products.proofs.dot_to.Given as goal

abbrev pub invariant-loop-i : goal.invariant-loop-i
invariant-loop-i g l = l.sum ≡ summed g.T.Summand.plus (λ j. g.T.Summand.times (get_or l.x j 0) (get_or l.y j 0)) l.i
