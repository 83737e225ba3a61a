-- By the three tests, each known by its equation. Assumes nothing.
use Rattle.listings.proofs.Made.{pair, pair_wrong}
use Rattle.listings.proofs.read_pair.Goals as goal

pub returns-then-is_faultless-is_pair : goal.returns-then-is_faultless-is_pair
returns-then-is_faultless-is_pair c = pair c.read_value-a.ensures c.is_faultless.ensures c.read_value-b.ensures c.is_faultless-2.ensures c.is_pair.ensures c.if-is_faultless-is_pair.true c.values_line.ensures

pub returns-else-is_faultless-is_pair : goal.returns-else-is_faultless-is_pair
returns-else-is_faultless-is_pair c = pair_wrong c.read_value-a.ensures c.is_faultless.ensures c.read_value-b.ensures c.is_faultless-2.ensures c.is_pair.ensures c.if-is_faultless-is_pair.false c.no_answer.ensures
