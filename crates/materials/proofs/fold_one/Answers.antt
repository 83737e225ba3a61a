-- `one_answer`, of the three calls. Assumes nothing.
use mathlib.Core.Path.{◌∙◌}
use Rattle.materials.proofs.One.{one_answer}
use Rattle.materials.proofs.fold_one.Goals as goal

pub returns : goal.returns
returns c =
    one_answer c.args.reading c.args.call.now c.args.answer.now c.requires (c.told-refusal.ensures ∙ c.fold_in.ensures.0) c.fold_in.ensures.1 c.clear_refused.ensures c.put_refusal.ensures
