use Prim.Native.Nat.{ℕ, ◌+◌}
use mathlib.Core.Path.{ap, ◌∙◌}
use mathlib.Core.List.{List}
use lib.ListN.{length}
use Rattle.buffers.specs.Memory.{put}
use Rattle.stream.proofs.Parts.{first_text, first_piece}
use Rattle.stream.proofs.fold_piece.Goals as goal

pub returns : goal.returns
returns c =
    let a = c.args in
    let e = c.first_line-p.ensures.0 in
    let t = first_text a.reading a.skip a.last a.s.now e in
    let p = c.put_due-used.ensures in (
      first_piece a.reading a.skip a.last a.s.now e a.at (p.0 ∙ ap (λ (l : List ℕ). a.at + length l) t),
      p.1 ∙ ap (put a.out.now a.at) t,
    )
