-- The turns of a program's loop, one after another until all is done, are a loop over what they read: so they print what is stated for it.
-- A read that brings nothing is the last, since no step asks for more after it. Assumes nothing.
use Prim.Native.Nat.{ℕ, ◌+◌, ◌<◌, ◌≤◌}
use mathlib.Core.Bool.{true, false}
use mathlib.Core.List.{List, [], ◌++◌, append_assoc}
use mathlib.Core.Path.{◌≡◌, refl, ap, sym, ◌∙◌}
use native.Mathlib.Omega.{arith}
use lib.ListN.{length, take, drop, length-drop}
use lib.Seq.{length-take-le}
use borrow.Author.Tests.{eq-eqb}
use Rattle.readings.specs.declared.Reading.{Reading}
use Rattle.stream.specs.Printed.{printed}
use Rattle.stream.specs.Stream.{start_of, step_of, buffer_of, text_of}
use Rattle.inputs.specs.Runs.{read_of, Loop, steps, fills, stops}
use Rattle.inputs.specs.Turns.{Filled, Turn, goes, gets, turn_read, Turns, begins, follows, all_read, all_text, Pumped}
use Rattle.stream.specs.declared.Held.{Held}
use Rattle.cutting.proofs.Buffer.{held_read}
use Rattle.inputs.proofs.Steps.{not_both, step_last, reads_open}
use Rattle.inputs.proofs.Looped.{loop_prints}

-- a turn, as the code has what it leads to
pub gone : (R : Reading) (n : ℕ) (b : List ℕ) (h : Held) {next : List ℕ} {r : Held} → next ≡ buffer_of R n b h → r ≡ step_of R n b h → r.reads ≡ false → Turn R n b h next r
gone R n b h e f g = rw (e, f) (goes (ap (λ (q : Held). q.reads) (sym f) ∙ g))

pub got_more : (R : Reading) (n : ℕ) (b : List ℕ) (h : Held) {mid : List ℕ} {m : Held} {next : List ℕ} {r : Held} → mid ≡ buffer_of R n b h → m ≡ step_of R n b h → m.reads ≡ true
    → Filled mid m next r → Turn R n b h next r
got_more R n b h e f g l = gets (ap (λ (q : Held). q.reads) (sym f) ∙ g) (rw (e, f) at l)

-- k bytes that were read behind what is held, which are there however they came
unfoldable pub filled : {b : List ℕ} {h : Held} {next : List ℕ} {r : Held} (k : ℕ) → h.at ≤ h.have → h.have < length b → h.have + k ≤ length b
    → length next ≡ length b → take h.have next ≡ take h.have b → r ≡ read_of h k → Filled b h next r
filled {b} {h} {next} k at room fits same keeps e =
    let more = take k (drop h.have next) in
    let l : length more ≡ k = length-take-le k (drop h.have next) (omega (arith, length-drop h.have next)) in
    record { more = more; room = omega arith; fits = omega arith; held = rw l (held_read b at next k (omega arith) keeps); state = rw l e }

module _ {R : Reading} {n : ℕ} {b : List ℕ} {h : Held} where
  turn_loop : {next : List ℕ} {r : Held} (t : Turn R n b h next r) {rest out : List ℕ} → (r.last ≡ true → rest ≡ [])
      → Loop R n next r rest out → Loop R n b h (turn_read t ++ rest) (text_of R n b h ++ out)
  unfolding turn_read
  turn_loop (goes f) end l = steps b h l
  turn_loop {next} (gets f g) {rest} end l =
      fills b h next g.more rest f (λ z. end (ap (λ (q : Held). q.last) g.state ∙ eq-eqb (length g.more) 0 z)) g.held (rw g.state at l)

  -- after the end of the input nothing is read
  turn_end : {next : List ℕ} {r : Held} (t : Turn R n b h next r) {rest : List ℕ} → (r.last ≡ true → rest ≡ []) → h.last ≡ true → turn_read t ++ rest ≡ []
  unfolding turn_read
  turn_end (goes f) end e = end (step_last R n b h ∙ e)
  turn_end (gets f g) end e = absurd (not_both (sym (reads_open R n b h f).0 ∙ e))

  -- the turn after which all is done reads nothing
  turn_stops : {next : List ℕ} {r : Held} (t : Turn R n b h next r) → r.done ≡ true → (turn_read t ≡ []) × Loop R n b h (turn_read t) (text_of R n b h)
  unfolding turn_read
  turn_stops (goes f) d = (refl, stops b h d)
  turn_stops (gets f g) d = absurd (not_both (sym (ap (λ (q : Held). q.done) g.state) ∙ d))

turns_loop : {R : Reading} {n : ℕ} {b : List ℕ} {h : Held} {k : ℕ} {next : List ℕ} {r : Held} (t : Turns R n b h k next r) {rest out : List ℕ} → (r.last ≡ true → rest ≡ [])
    → Loop R n next r rest out → Loop R n b h (all_read t ++ rest) (all_text t ++ out)
unfolding all_read all_text
turns_loop begins end l = l
turns_loop (follows t u) end l = simp append_assoc (turns_loop t (turn_end u end) (turn_loop u end l))

pub all_loop : {R : Reading} {n : ℕ} {b : List ℕ} {h : Held} {k : ℕ} {next : List ℕ} {r : Held} (t : Turns R n b h k next r) → h.done ≡ false → r.done ≡ true → Loop R n b h (all_read t) (all_text t)
unfolding all_read all_text
all_loop begins e f = absurd (not_both (sym e ∙ f))
all_loop (follows t u) e f = turns_loop t (λ z. (turn_stops u f).0) (turn_stops u f).1

-- from before anything is read until all is done, the texts are what is printed for all that was read
pub turns_print : {R : Reading} {n : ℕ} {b : List ℕ} {k : ℕ} {next : List ℕ} {r : Held} → 0 < n → (t : Turns R n b start_of k next r) → r.done ≡ true
    → all_text t ≡ printed R (all_read t)
turns_print pos t f = loop_prints pos (all_loop t refl f)

pub pumped_prints : {R : Reading} {b next : List ℕ} (p : Pumped R b next) → p.held.done ≡ true → all_text p.turns ≡ printed R (all_read p.turns)
pumped_prints p f = turns_print (omega arith) p.turns f
