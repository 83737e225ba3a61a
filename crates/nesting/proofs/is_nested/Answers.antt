use Rattle.nesting.proofs.is_nested.Goals as goal

pub returns : goal.returns
returns c = rw c.find.ensures.0
