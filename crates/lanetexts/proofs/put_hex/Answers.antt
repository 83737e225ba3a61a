-- The invariant: what is to stand in the memory at the end, said over the memory as it is, stays the same with each digit. Assumes nothing.
use Rattle.buffers.specs.Memory.{put}
use Rattle.spelling.proofs.Texts.{length_hex}
use Prim.Native.Nat.{◌%◌}
use native.Mathlib.Omega.{arith}
use borrow.Author.Rules.{rules}
use mathlib.Core.Path.{◌≡◌, refl, sym, ◌∙◌}
use lib.ListN.{length-set}
use Rattle.lanetexts.proofs.Digits.{put_turn, put_end}
use Rattle.lanetexts.proofs.put_hex.Goals as goal

pub loop-i-init : goal.loop-i-init
loop-i-init c = (search rules, refl, refl)

pub loop-i-preserved : goal.loop-i-preserved
loop-i-preserved c =
    let a = c.args in
    let l = c.loop-i in (
      search rules,
      simp length-set (search rules),
      l.invariant.2 ∙ rw (c.hex_table-hex.ensures.entry (l.rest % 16) (search rules)) (put_turn l.out a.at l.i l.rest (search rules) (omega arith)),
    )

pub returns : goal.returns
unfolding put
returns c =
    let a = c.args in
    let l = c.loop-i in
    let z : l.i ≡ 0 = omega arith in
    rw length_hex (sym (l.invariant.2 ∙ rw z (put_end l.out a.at l.rest)))
