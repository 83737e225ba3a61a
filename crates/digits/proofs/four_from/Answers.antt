-- What is chosen, and between what. Assumes nothing.
use Rattle.digits.proofs.four_from.Goals as goal

pub returns : goal.returns
returns c =
    rw (c.choose.ensures, c.four_value.ensures.0, c.four_digits.ensures)
