-- No fault's place reaches 2^32. Assumes nothing.
use mathlib.Core.Path.{ap}
use native.Mathlib.Omega.{arith}
use lib.ListN.{length}
use Rattle.reading.proofs.IntoWords.{place_few}
use Rattle.reading.specs.declared.ReadInto.{ReadInto}
use Rattle.chanrelout.proofs.chanrelout_read_value.Goals as goal

pub read_number-requires : goal.read_number-requires
read_number-requires c =
    let a = c.args in
    omega (arith, place_few (length a.value.now) a.text.now, ap (λ (x : ReadInto). x.place) c.read_into-a.ensures.0)
