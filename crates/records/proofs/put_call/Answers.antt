-- Three values and the words in front of them are the call's, by `call_there`. Assumes nothing.
use Prim.Native.Nat.{ℕ}
use mathlib.Core.Path.{◌≡◌, ◌∙◌}
use lib.ListN.{length}
use Rattle.values.specs.Value.{place, kind_at}
use Rattle.values.proofs.Places.{there}
use Rattle.calls.specs.declared.Call.{Call}
use Rattle.calls.specs.Table.{builtin_at}
use Rattle.calls.proofs.CallWords.{call_there}
use borrow.Author.Rules.{rules}
use Rattle.records.proofs.put_call.Goals as goal
use Rattle.records.proofs.put_call.Goals.{Start}

-- its builtin's number and its target's place name them
named : (call : Call) (n : ℕ) {p : ℕ} → builtin_at n ≡ call.builtin → p ≡ place call.target
    → record { builtin = builtin_at n; count = call.count; target = kind_at p; a = call.a; b = call.b; c = call.c } ≡ call
named call n en ep = rw (en, ep, there call.target)

held : (c : Start) → (length c.args.call.a.lanes ≡ 16) × (length c.args.call.b.lanes ≡ 16) × (length c.args.call.c.lanes ≡ 16)
held c = (search rules, search rules, search rules)

pub returns : goal.returns
returns c =
    let call = c.args.call in
    call_there call.a call.b call.c (held (goal.at.returns c).Start).0 (held (goal.at.returns c).Start).1 (held (goal.at.returns c).Start).2 c.args.w.now _ _ _ c.requires c.put_value.ensures c.put_value-2.ensures c.put_value-3.ensures c.put_head.ensures
    ∙ named call _ c.number_of.ensures.0 c.place_of.ensures
