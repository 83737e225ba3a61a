-- By the one test, known by its equation. Assumes nothing.
use Rattle.listings.proofs.Made.{lone, lone_wrong}
use Rattle.listings.proofs.read_lone.Goals as goal

pub returns-then-is_faultless : goal.returns-then-is_faultless
returns-then-is_faultless c = lone c.read_value-a.ensures c.is_faultless.ensures c.if-is_faultless.true c.empty.ensures c.values_line.ensures

pub returns-else-is_faultless : goal.returns-else-is_faultless
returns-else-is_faultless c = lone_wrong c.read_value-a.ensures c.is_faultless.ensures c.if-is_faultless.false c.no_answer.ensures
