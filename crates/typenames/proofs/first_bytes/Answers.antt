-- Long enough for all, or byte by byte. Assumes nothing.
use Prim.Native.Nat.{◌-◌}
use mathlib.Core.Path.{ap, ◌∙◌}
use lib.ListN.{length}
use lib.Seq.{take_all}
use native.Mathlib.Omega.{arith}
use Rattle.typenames.specs.Program.{first_bytes}
use Rattle.typenames.proofs.first_bytes.Goals as goal

pub returns-then-t-lt11 : goal.returns-then-t-lt11
returns-then-t-lt11 c =
    let t = c.args.t.now in
    c.short_bytes.ensures ∙ ap first_bytes (take_all (length t - 0) t (omega arith))
