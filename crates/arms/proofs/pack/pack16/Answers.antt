-- Each part of the outcome is what its function ensures. Assumes nothing.
use mathlib.Core.Path.{◌∙◌}
use Rattle.arms.proofs.pack.pack16.Goals as goal

pub returns : goal.returns
returns c = c.given_word.ensures ∙ rw (c.one_value.ensures, c.word16-c.ensures.0, c.word16-c.ensures.1)
