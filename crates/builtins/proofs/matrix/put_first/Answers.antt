-- A call of a matrix that is not refused is of select or of transpose. Assumes nothing.
use mathlib.Core.Path.{ap, ◌∙◌}
use Rattle.buffers.specs.Memory.{put}
use Rattle.words.proofs.There.{all_there}
use Rattle.builtins.proofs.Matrices.{third_there, selected_words, other_words}
use borrow.Author.Rules.{rules}
use Rattle.builtins.proofs.matrix.put_first.Goals as goal

pub bounds-w-0 : goal.bounds-w-0
bounds-w-0 c = let h = all_there c.args.w.now 3 c.requires.0.formed in search rules

pub put_selected-requires : goal.put_selected-requires
put_selected-requires c = (third_there c.args.reading c.args.w.now c.args.p c.requires.0 c.requires.2 c.if-w-eq-SELECT.true, c.requires.1)

pub returns-then-w-eq-SELECT : goal.returns-then-w-eq-SELECT
returns-then-w-eq-SELECT c =
    c.put_selected.ensures ∙ ap (put c.args.out.now 0) (selected_words c.args.reading c.args.w.now c.args.p c.requires.0 c.requires.2 c.if-w-eq-SELECT.true)

pub returns-else-w-eq-SELECT : goal.returns-else-w-eq-SELECT
returns-else-w-eq-SELECT c =
    c.put_transposed.ensures ∙ ap (put c.args.out.now 0) (other_words c.args.reading c.args.w.now c.args.p c.requires.0 c.requires.2 c.if-w-eq-SELECT.false)
