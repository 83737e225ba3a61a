-- By whether frexp was answered. Assumes nothing.
use Prim.Native.Nat.{ℕ}
use mathlib.Core.Bool.{Bool, true, false, ◌&&◌}
use mathlib.Core.List.{List}
use mathlib.Core.Path.{◌≡◌, ◌∙◌}
use lib.Dec.{eqb}
use Rattle.values.specs.Value.{empty_value}
use Rattle.misspellings.specs.Misspellings.{misspelled}
use Rattle.nested.specs.declared.Folded.{Folded}
use Rattle.nested.specs.Nested.{is_frexp, of_call, handed}
use Rattle.nested.proofs.handed_by.Goals as goal

module _ (w : List ℕ) (x : Folded) (b : Bool) (q : b ≡ is_frexp w) where
  not_handed : b && eqb x.answer.refusal 0 ≡ true → of_call (misspelled 4 0) empty_value ≡ handed w x
  unfolding handed
  not_handed t = rw (← q, t)

  handed_on : b && eqb x.answer.refusal 0 ≡ false → of_call (misspelled x.answer.refusal x.place) x.answer.first ≡ handed w x
  unfolding handed
  handed_on t = rw (← q, t)

pub returns-then-same-x : goal.returns-then-same-x
returns-then-same-x c = c.of_call.ensures ∙ rw (c.empty.ensures, c.misspelled.ensures) (not_handed _ _ _ c.same.ensures c.if-same-x.true)

pub returns : goal.returns
returns c = c.of_call-2.ensures ∙ rw c.misspelled-2.ensures (handed_on _ _ _ c.same.ensures c.if-same-x.false)
