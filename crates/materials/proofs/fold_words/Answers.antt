-- The invariant: writing all answers comes to writing those from call k on into the memory as it is; a turn is `turn`. Assumes nothing.
use Prim.Native.Nat.{ℕ, ◌+◌, ◌*◌, ◌-◌, ◌≤◌, ◌<◌}
use mathlib.Core.List.{List}
use mathlib.Core.Path.{◌≡◌, refl, ap, sym, ◌∙◌}
use native.Mathlib.Omega.{arith}
use lib.ListN.{length, length-take, length-drop}
use borrow.Author.Tests.{lt-ltb, le-ltb}
use Rattle.buffers.specs.Memory.{put}
use Rattle.buffers.proofs.Puts.{put_nil}
use Rattle.calls.specs.Words.{call_of}
use Rattle.builtins.specs.Fold.{fold_in}
use Rattle.materials.specs.Words.{answer_words, answer_space, written_of_all}
use Rattle.materials.proofs.All.{rest_all, rest_end, call_words, turn, turn_length}
use Rattle.materials.proofs.fold_words.Goals as goal

pub returns-then-answers-n : goal.returns-then-answers-n
unfolding written_of_all
returns-then-answers-n c =
    let a = c.args in
    let t = lt-ltb (length a.answers.now) (answer_space a.calls.now) (omega arith) in
    (rw t, rw t (sym (put_nil a.answers.now 0)))

pub loop-k-init : goal.loop-k-init
loop-k-init c = (refl, refl)

pub fold_one-requires : goal.fold_one-requires
fold_one-requires c = simp (length-take, length-drop) (omega arith)

pub loop-k-preserved : goal.loop-k-preserved
loop-k-preserved c =
    let a = c.args in
    let n = c.call_count-n.result in
    let l = c.loop-k in
    let w = a.calls.now in
    let call = call_words w (54 * l.k) _ c.call_end-end.ensures in
    let answer = c.fold_one.ensures ∙ ap (λ (m : List ℕ). answer_words (fold_in a.reading (call_of m))) call in
    let size : 36 * l.k + 36 - 36 * l.k ≡ 36 = omega arith in
    let room : 36 * n ≤ length l.answers = omega arith in
    let more : l.k < n = omega arith in
    (rw size (turn_length a.reading w l.answers n l.k more room answer ∙ l.invariant.0), rw size (l.invariant.1 ∙ turn a.reading w l.answers n l.k more room answer))

pub returns : goal.returns
unfolding written_of_all
returns c =
    let a = c.args in
    let w = a.calls.now in
    let l = c.loop-k in
    let n = c.call_count-n.result in
    let t = le-ltb (length a.answers.now) (answer_space w) (omega arith) in
    let e : l.k ≡ n = omega arith in
    let all = rest_all a.reading w n c.call_count-n.ensures in
    (rw t, rw t (sym (ap (put a.answers.now 0) (sym all) ∙ l.invariant.1 ∙ rw (e, rest_end a.reading w n) (put_nil l.answers (36 * n)))))
