-- What is judged by the entry of the call's builtin is what is judged by its row, by `right`. Assumes nothing.
use mathlib.Core.Path.{ap, ◌∙◌}
use Rattle.calls.specs.Table.{takes}
use Rattle.calls.specs.Program.{shape_of, types_of}
use Rattle.calls.proofs.Shaped.{right}
use Rattle.judging.proofs.judge.Goals as goal

pub returns : goal.returns
returns c =
    let b = c.builtin_at.ensures in
    right c.args.w.now c.word.ensures c.word-2.ensures
    (ap (λ e. e.shape) c.entry_of-row.ensures ∙ ap (λ x. shape_of (takes x)) b) (ap (λ e. e.set) c.entry_of-row.ensures ∙ ap (λ x. types_of (takes x)) b) c.judge.ensures
