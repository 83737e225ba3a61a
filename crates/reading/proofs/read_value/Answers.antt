-- A value is what its words say, so what is read into the array is read out of it again. Assumes nothing.
use native.Mathlib.Omega.{arith}
use Rattle.words.proofs.There.{put_there}
use Rattle.spelling.proofs.WrittenSo.{read_lanes_lem}
use Rattle.reading.proofs.read_value.Goals as goal

pub reading_of-requires : goal.reading_of-requires
reading_of-requires c =
    let e = c.read_field-len.ensures in
    (e.0, rw e.1 (put_there _ 0 _ (read_lanes_lem _) (omega arith)))
