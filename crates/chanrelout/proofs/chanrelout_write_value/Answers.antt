-- No text's length reaches 2^32. Assumes nothing.
use mathlib.Core.Path.{ap}
use native.Mathlib.Omega.{arith}
use lib.ListN.{length}
use Rattle.words.specs.Words.{value_at}
use Rattle.writing.proofs.Told.{length_few}
use Rattle.writing.specs.declared.Written.{Written}
use Rattle.chanrelout.proofs.chanrelout_write_value.Goals as goal

pub written_number-requires : goal.written_number-requires
written_number-requires c =
    let a = c.args in
    omega (arith, length_few (length a.out.now) (value_at a.value.now 0), ap (λ (x : Written). x.len) c.write_into-a.ensures.0)
