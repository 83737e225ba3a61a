use Prim.Native.Nat.{ℕ}
use mathlib.Core.List.{List}
use mathlib.Core.Path.{ap, ◌∙◌}
use native.Mathlib.Omega.{arith}
use lib.ListN.{length}
use Rattle.buffers.specs.Memory.{put}
use Rattle.stream.specs.Stream.{part_of, part_text, lines_in}
use Rattle.cutting.proofs.Buffer.{held_part}
use Rattle.stream.proofs.fold_held.Goals as goal

pub returns : goal.returns
returns c =
    let a = c.args in
    let n = lines_in a.out.now in
    let m = held_part a.buf.now a.at a.have c.min-end.ensures c.min-start.ensures in
    let e = c.fold_part.ensures in (
      e.0 ∙ ap (part_of a.reading n a.skip a.last) m,
      e.1 ∙ ap (λ (l : List ℕ). put a.out.now 0 (part_text a.reading n a.skip a.last l)) m,
      omega (arith, e.2, ap length m),
      e.3,
    )
