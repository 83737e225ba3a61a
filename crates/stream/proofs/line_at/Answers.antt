use Prim.Native.Nat.{ℕ, ◌-◌}
use mathlib.Core.Path.{◌≡◌, ap, ◌∙◌}
use lib.ListN.{length, take, drop, length-drop}
use Rattle.buffers.specs.Memory.{put}
use Rattle.lines.specs.Line.{line_answer, written_in}
use Rattle.stream.proofs.Puts.{rest_all, put_rest}
use Rattle.stream.proofs.line_at.Goals as goal

pub returns : goal.returns
returns c =
    let a = c.args in
    let o = a.out.now in
    let m : length (take (length o - a.at) (drop a.at o)) ≡ length o - a.at = ap length (rest_all o a.at) ∙ length-drop a.at o in
    let e = c.fold_line_in.ensures in (
      e.0 ∙ ap (λ (k : ℕ). line_answer a.reading k a.line.now) m,
      put_rest o a.at (written_in a.reading (length o - a.at) a.line.now) (e.1 ∙ ap (λ (k : ℕ). put (take (length o - a.at) (drop a.at o)) 0 (written_in a.reading k a.line.now)) m),
    )
