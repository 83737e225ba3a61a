-- A turn by what it read, and a step's text by what of the lent memory is written. Assumes nothing.
use Rattle.std.proofs.Common.{ℕ, List, Option, true, false, Bool, ◌≡◌, length, take, refl, ap, sym, ◌∙◌}
use Rattle.std.specs.Prelude.{Result, Ok, Err, OnOk}
use lib.Dec.{eqb}
use lib.Seq.{take-append_seam}
use Rattle.std.specs.Io.KnownBytes.{Consumes}
use Rattle.std.proofs.KnownBytes.{Consumes-nil}
use Rattle.readings.specs.declared.Reading.{Reading}
use Rattle.buffers.specs.Memory.{put}
use Rattle.stream.specs.Stream.{part_of, step_part, step_of, buffer_of, text_of}
use Rattle.inputs.specs.Turns.{Filled, Turn, goes, gets, turn_read}
use Rattle.inputs.proofs.Steps.{step_last}
use Rattle.stream.specs.declared.Held.{Held}

-- what holds in any case
pub on_ok : {T E P : Type 0} (r : Result T E) → P → OnOk r P
on_ok (Ok x) p = p
on_ok (Err e) p = tt

module _ (R : Reading) (n : ℕ) (b : List ℕ) (h : Held) where
  pub gone_read : {next : List ℕ} {r : Held} (unread : Option (List ℕ)) → next ≡ buffer_of R n b h → r ≡ step_of R n b h → r.reads ≡ false
      → (t : Turn R n b h next r) × Consumes unread unread (turn_read t)
  unfolding turn_read
  gone_read unread e f g = rw (e, f) (goes (ap (λ (q : Held). q.reads) (sym f) ∙ g), Consumes-nil unread)

  pub got_read : {mid : List ℕ} {m : Held} {next : List ℕ} {r : Held} (unread unread' : Option (List ℕ)) → mid ≡ buffer_of R n b h → m ≡ step_of R n b h → m.reads ≡ true
      → (f : Filled mid m next r) × Consumes unread unread' f.more → (t : Turn R n b h next r) × Consumes unread unread' (turn_read t)
  unfolding turn_read
  got_read unread unread' e f g p =
      let q = rw (e, f) at p in
      (gets (ap (λ (q : Held). q.reads) (sym f) ∙ g) q.0, q.1)

  pub kept_last : {r : Held} → r ≡ step_of R n b h → h.last ≡ r.last
  kept_last e = sym (ap (λ (q : Held). q.last) e ∙ step_last R n b h)

  step_used : (step_of R n b h).used ≡ length (text_of R n b h)
  unfolding step_of text_of part_of
  step_used = by (eqb (step_part R n b h).size 0) refl
    where
      by : (t : Bool) → eqb (step_part R n b h).size 0 ≡ t → (step_of R n b h).used ≡ length (text_of R n b h)
      by true e = rw e
      by false e = rw e

  pub text_written : (o : List ℕ) {o' : List ℕ} {r : Held} → r ≡ step_of R n b h → o' ≡ put o 0 (text_of R n b h) → take r.used o' ≡ text_of R n b h
  unfolding put
  text_written o e f = rw (e, f, step_used) (take-append_seam (text_of R n b h) _)
