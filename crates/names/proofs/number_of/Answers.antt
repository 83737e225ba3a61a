-- The builtin of the slot, tried, is what the search finds: the two laws of NameSlots. Assumes nothing.
use Rattle.calls.specs.Table.{builtin_at}
use Rattle.names.specs.Program.{place}
use Rattle.names.proofs.NameSlots.{guess_right, guess_wrong}
use mathlib.Core.Path.{ap, sym, ◌∙◌}
use Rattle.names.proofs.number_of.Goals as goal

pub returns-then-named : goal.returns-then-named
returns-then-named c =
    let s = c.args.s.now in
    let i = c.place_at-i.ensures.0 ∙ ap place c.slot_of.ensures.0 in
    ap builtin_at i ∙ guess_right s (rw i at (sym c.named.ensures ∙ c.if-named.true))

pub returns-else-named : goal.returns-else-named
unfolding builtin_at
returns-else-named c =
    let s = c.args.s.now in
    let i = c.place_at-i.ensures.0 ∙ ap place c.slot_of.ensures.0 in
    guess_wrong s (rw i at (sym c.named.ensures ∙ c.if-named.false))
