-- The two choices are the definition's. Assumes nothing.
use Rattle.diffs.specs.Diffs.{both_refusal}
use Rattle.diffs.proofs.both_refusal.Goals as goal

pub returns : goal.returns
unfolding both_refusal
returns c = rw c.choose.ensures at c.choose-2.ensures
