-- The record is the definition, opened. Assumes nothing.
use Rattle.listings.specs.Answers.{no_answer}
use Rattle.listings.proofs.no_answer.Goals as goal

pub returns : goal.returns
unfolding no_answer
returns c = rw (c.empty.ensures, c.empty-2.ensures)
