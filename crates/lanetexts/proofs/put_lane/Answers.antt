-- A byte set and a write of the digits after it are one write. Assumes nothing.
use mathlib.Core.List.{[], ◌∷◌}
use mathlib.Core.Path.{refl, ◌∙◌}
use native.Mathlib.Omega.{arith}
use borrow.Author.Rules.{rules}
use lib.ListN.{length-set}
use Rattle.buffers.proofs.Puts.{put_set, then}
use Rattle.spelling.specs.Hex.{hex_bytes}
use Rattle.lanetexts.proofs.put_lane.Goals as goal

pub put_hex-requires : goal.put_hex-requires
put_hex-requires c = (rw length-set (omega arith), search rules)

pub shape_of-out : goal.shape_of-out
shape_of-out c = c.out-1.given ∙ simp length-set

pub returns : goal.returns
returns c =
    let a = c.args in
    (refl, then a.out.now a.at (a.b ∷ []) (hex_bytes a.w a.v) (omega arith) (put_set a.out.now a.at a.b (omega arith)) refl c.put_hex.ensures)
