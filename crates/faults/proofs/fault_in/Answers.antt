-- The type that the text starts with is the value's where a colon follows it; else the fault is the definition's. Assumes nothing.
use Prim.Native.Nat.{◌<◌}
use mathlib.Core.Path.{ap, sym, ◌∙◌}
use native.Mathlib.Omega.{arith}
use lib.ListN.{length}
use Rattle.spelling.specs.Read.{wrong}
use Rattle.faults.specs.Program.{told_of}
use Rattle.typenames.proofs.BeforeColon.{colon_inside, by_type, no_type}
use Rattle.faults.proofs.fault_in.Goals as goal
use Rattle.faults.proofs.fault_in.Goals.{Else-byte_at-ne58}

-- a colon stands in the text
within : (c : Else-byte_at-ne58) → c.type_len-c.result < length c.args.s.now
within c = colon_inside c.args.s.now c.type_len-c.result (sym c.byte_at.ensures ∙ c.if-byte_at-ne58.false)

pub returns-then-byte_at-ne58 : goal.returns-then-byte_at-ne58
unfolding wrong
returns-then-byte_at-ne58 c =
    let s = c.args.s.now in
    let e = c.fault_at.ensures ∙ ap told_of (no_type s c.type_from-p.ensures.0 c.type_len-c.ensures.0 (λ colon. c.if-byte_at-ne58.true (c.byte_at.ensures ∙ colon))) in
    (ap (λ r. r.fault) e, ap (λ r. r.place) e)

pub slice_bounds-fault_of-count : goal.slice_bounds-fault_of-count
slice_bounds-fault_of-count c = omega (arith, within c)

pub returns : goal.returns
returns c =
    let s = c.args.s.now in
    let e = c.fault_of.ensures ∙ ap told_of (by_type s c.type_from-p.ensures.0 c.type_len-c.ensures.0 (sym c.byte_at.ensures ∙ c.if-byte_at-ne58.false)) in
    (ap (λ r. r.fault) e, ap (λ r. r.place) e)

pub slice_bounds-fault_of-start : goal.slice_bounds-fault_of-start
slice_bounds-fault_of-start c = omega (arith, within c)
