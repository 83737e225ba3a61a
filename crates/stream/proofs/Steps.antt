-- What the code of a step hands back is what is stated, by its two cases. Assumes nothing.
use Prim.Native.Nat.{ℕ, ◌+◌, min}
use mathlib.Core.List.{List}
use mathlib.Core.Bool.{true, false, not}
use mathlib.Core.Path.{◌≡◌, ap, sym, ◌∙◌}
use lib.ListN.{length}
use lib.Dec.{eqb}
use borrow.Author.Tests.{eq-eqb, ne_eqb}
use Rattle.readings.specs.declared.Reading.{Reading}
use Rattle.buffers.specs.Memory.{put}
use Rattle.cutting.specs.Cutting.{held_of}
use Rattle.stream.specs.Stream.{step_part, step_of, buffer_of}
use Rattle.stream.specs.declared.Part.{Part}
use Rattle.stream.specs.declared.Held.{Held}

module _ (R : Reading) (n : ℕ) (b : List ℕ) (h : Held) {p : Part} (e : p ≡ step_part R n b h) where
  same_size : p.size ≡ (step_part R n b h).size
  same_size = ap (λ (q : Part). q.size) e

  module _ (z : p.size ≡ 0) where
    is_idle : eqb (step_part R n b h).size 0 ≡ true
    is_idle = eq-eqb (step_part R n b h).size 0 (sym same_size ∙ z)

    pub step_idle : {k : ℕ} → k ≡ length (held_of b h.at h.have)
        → ◌≡◌ {A = Held} (record { at = 0; have = k; used = p.used; skip = p.skip; last = h.last; reads = not h.last; done = h.last }) (step_of R n b h)
    unfolding step_of
    step_idle f = rw (is_idle, e, f)

    pub buffer_idle : put b 0 (held_of b h.at h.have) ≡ buffer_of R n b h
    unfolding buffer_of
    buffer_idle = rw is_idle

  module _ (z : p.size ≡ 0 → ⊥) where
    is_busy : eqb (step_part R n b h).size 0 ≡ false
    is_busy = ne_eqb (step_part R n b h).size 0 (λ f. z (same_size ∙ f))

    pub step_busy : {k : ℕ} → k ≡ min h.have (length b)
        → ◌≡◌ {A = Held} (record { at = h.at + p.size; have = k; used = p.used; skip = p.skip; last = h.last; reads = false; done = false }) (step_of R n b h)
    unfolding step_of
    step_busy f = rw (is_busy, e, f)

    pub buffer_busy : b ≡ buffer_of R n b h
    unfolding buffer_of
    buffer_busy = rw is_busy
