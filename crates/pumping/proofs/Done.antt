-- Where turns are counted and end: either their number runs out, or all is done, and then the end of the input was read. Assumes nothing.
use Rattle.std.proofs.Common.{ℕ, suc, List, Bool, true, false, cond, ◌+◌, ◌-◌, ◌^◌, ◌<◌, ◌⊎◌, inl, inr, ◌≡◌, refl, ap, sym, ◌∙◌, arith}
use Rattle.readings.specs.declared.Reading.{Reading}
use Rattle.stream.specs.Stream.{start_of}
use Rattle.inputs.specs.Turns.{Turn, goes, gets, Turns, begins, follows}
use Rattle.inputs.proofs.Steps.{not_both, step_last, done_none}
use Rattle.stream.specs.declared.Held.{Held}

pub counted : (done : Bool) (k : ℕ) {turns r : ℕ} {Before : Type 0} → 0 < turns → r ≡ cond done 0 (turns - 1)
    → (k + turns ≡ 2 ^ 64 - 1) ⊎ (Before × (turns ≡ 0)) → (suc k + r ≡ 2 ^ 64 - 1) ⊎ ((done ≡ true) × (r ≡ 0))
counted true k pos e was = inr (refl, e)
counted false k pos e (inl w) = inl (omega arith)
counted false k pos e (inr w) = absurd (omega arith)

turn_done : {R : Reading} {n : ℕ} {b : List ℕ} {h : Held} {next : List ℕ} {r : Held} → 0 < n → Turn R n b h next r → r.done ≡ true → r.last ≡ true
turn_done {R = R} {n = n} {b = b} {h = h} pos (goes f) d = step_last R n b h ∙ (done_none R n b h pos d).0
turn_done pos (gets f g) d = absurd (not_both (sym (ap (λ (q : Held). q.done) g.state) ∙ d))

pub turns_done : {R : Reading} {n : ℕ} {b : List ℕ} {k : ℕ} {next : List ℕ} {r : Held} → 0 < n → Turns R n b start_of k next r → r.done ≡ true → r.last ≡ true
turns_done pos begins d = absurd (not_both d)
turns_done pos (follows t u) d = turn_done pos u d
