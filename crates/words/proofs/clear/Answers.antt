-- The part is filled with as many zeros as the empty value has words. Assumes nothing.
use mathlib.Core.Path.{◌≡◌, ap, ◌∙◌}
use native.Mathlib.Omega.{arith}
use borrow.Author.Rules.{rules}
use lib.ListN.{replicate}
use borrow.Rule.Slice.PartMut.{put_mid}
use Rattle.values.specs.Value.{empty_value}
use Rattle.buffers.proofs.Puts.{put_part}
use Rattle.words.proofs.clear.Goals as goal

pub returns : goal.returns
unfolding empty_value
returns c =
    let a = c.args in
    let f : c.fill.new.self ≡ replicate 17 0 = search rules in
    ap (put_mid a.at _ a.out.now) f ∙ put_part a.out.now a.at _ (replicate 17 0) (omega arith)
