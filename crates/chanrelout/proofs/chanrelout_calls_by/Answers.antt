-- Of a number that is no choice nothing is written. Assumes nothing.
use mathlib.Core.Path.{refl, sym}
use Rattle.buffers.proofs.Puts.{put_nil}
use Rattle.chanrelout.proofs.chanrelout_calls_by.Goals as goal

pub returns-in-Some : goal.returns-in-Some
returns-in-Some c = rw (c.told.ensures, c.in-Some.ensures.0, sym c.in-Some.ensures.1) c.fold_words.ensures

pub returns-in-None : goal.returns-in-None
returns-in-None c = rw c.in-None.ensures (refl, sym (put_nil _ _))
