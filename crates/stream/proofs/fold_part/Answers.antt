use Prim.Native.Nat.{ℕ, ◌<◌}
use mathlib.Core.Path.{◌≡◌, refl, ap, sym, ◌∙◌}
use mathlib.Core.List.{List}
use native.Mathlib.Omega.{arith}
use native.Mathlib.Nat.{div-add-mod', zero-add, add-zero}
use lib.ListN.{length}
use borrow.Author.Rules.{rules}
use Rattle.buffers.specs.Memory.{put}
use Rattle.stream.specs.Stream.{line_room, piece_of, piece_text, part_text, part_of, part_size, part_skip}
use Rattle.buffers.proofs.Puts.{put_nil}
use Rattle.stream.proofs.Puts.{rest_all}
use Rattle.stream.proofs.Parts.{same_part, from_turn, put_turn, size_in, used_in}
use Rattle.stream.proofs.fold_part.Goals as goal

pub loop-left-init : goal.loop-left-init
unfolding part_of
loop-left-init c =
    let a = c.args in
    (search rules, omega (arith, div-add-mod' (length a.out.now) line_room), refl, refl, same_part (sym (zero-add _)) (sym (zero-add _)) refl)

pub fold_piece-p-requires : goal.fold_piece-p-requires
fold_piece-p-requires c = omega (arith, c.loop-left-test.true, c.loop-left.invariant)

pub overflow_add-at : goal.overflow_add-at
overflow_add-at c =
    let a = c.args in
    let l = c.loop-left in
    let p = c.fold_piece-p in
    let e = p.ensures.0 ∙ ap (piece_of a.reading l.used l.amid a.last) (rest_all a.s.now l.at) in
    let pos : 0 < l.left = c.loop-left-test.true in
    omega (arith, size_in a.reading a.s.now l.at l.used l.left l.amid a.last pos e l.invariant.0, c.well_formed)

pub loop-left-preserved : goal.loop-left-preserved
loop-left-preserved c =
    let a = c.args in
    let l = c.loop-left in
    let p = c.fold_piece-p in
    let e = p.ensures.0 ∙ ap (piece_of a.reading l.used l.amid a.last) (rest_all a.s.now l.at) in
    let pos : 0 < l.left = c.loop-left-test.true in
    let f = p.ensures.1 ∙ ap (λ (t : List ℕ). put l.out l.used (piece_text a.reading l.amid a.last t)) (rest_all a.s.now l.at) in
    let n = c.lines_left-left.ensures in (
      size_in a.reading a.s.now l.at l.used l.left l.amid a.last pos e l.invariant.0,
      omega (arith, used_in a.reading a.s.now l.at l.used l.left l.amid a.last pos e, n.0, l.invariant.1),
      search rules,
      rw n.1 (l.invariant.3 ∙ put_turn a.reading a.s.now l.at l.used l.left l.amid a.last pos e l.out (omega (arith, pos, l.invariant.1, l.invariant.2)) f),
      rw n.1 (l.invariant.4 ∙ from_turn a.reading a.s.now l.at l.used l.left l.amid a.last pos e),
    )

pub returns : goal.returns
unfolding part_text part_size part_skip
returns c =
    let l = c.loop-left in
    let z : l.left ≡ 0 = omega (arith, c.loop-left-test.false) in
    (sym (l.invariant.4 ∙ rw z (same_part (add-zero l.at) (add-zero l.used) refl)), sym (l.invariant.3 ∙ rw z (put_nil l.out l.used)), l.invariant.0, omega arith)
