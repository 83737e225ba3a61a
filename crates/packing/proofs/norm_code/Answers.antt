-- In either reading a norm code has w bits. Assumes nothing.
use Rattle.readings.specs.declared.Reading.TheVariants as In
use Rattle.packing.proofs.Codes.{within}
use Rattle.packing.proofs.norm_code.Goals as goal

pub returns-in-Crate : goal.returns-in-Crate
returns-in-Crate c = let f = c.args.f in rw c.in-Crate.is (within In.Crate f.signed f.w c.args.x _ f.widths.0 f.widths.1 c.pack.ensures)

pub returns-in-Text : goal.returns-in-Text
returns-in-Text c = let f = c.args.f in rw c.in-Text.is (within In.Text f.signed f.w c.args.x _ f.widths.0 f.widths.1 c.pack-in-Text.ensures)
