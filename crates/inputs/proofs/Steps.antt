-- Laws of a step: what is held afterwards is what was held but for the part done with, and what it asks for. Assumes nothing.
use Prim.Native.Nat.{ℕ, ◌+◌, ◌<◌, ◌≤◌}
use mathlib.Core.List.{List, [], ◌++◌}
use mathlib.Core.Bool.{Bool, true, false}
use mathlib.Core.Path.{◌≡◌, refl, ap, sym, ◌∙◌}
use native.Mathlib.Nat.{min-le_right}
use native.Mathlib.Omega.{arith}
use lib.ListN.{length, take, drop, length-drop}
use lib.Seq.{drop-drop, take-append_seam, drop-nil}
use lib.Dec.{eqb}
use borrow.Author.Tests.{eqb-true}
use Rattle.readings.specs.declared.Reading.{Reading}
use Rattle.cutting.specs.Cutting.{most_bytes, held_of}
use Rattle.buffers.specs.Memory.{put}
use Rattle.buffers.proofs.Puts.{put_length}
use Rattle.stream.specs.Stream.{part_of, step_part, step_of, buffer_of, text_of, step_lines}
use Rattle.inputs.specs.Runs.{Run, writes}
use Rattle.stream.specs.declared.Held.{Held}
use Rattle.cutting.proofs.Buffer.{take_min, length_held}
use Rattle.inputs.proofs.Stream.{part_size_le, held_short, held_none}

pub not_both : false ≡ true → ⊥
not_both f = let z : ◌≡◌ {A = ℕ} 0 1 = cc in omega arith

module _ (R : Reading) (n : ℕ) (b : List ℕ) (h : Held) where
  -- what is held after a step
  pub step_held : held_of (buffer_of R n b h) (step_of R n b h).at (step_of R n b h).have ≡ drop (step_part R n b h).size (held_of b h.at h.have)
  unfolding held_of step_of buffer_of put
  step_held = by (eqb (step_part R n b h).size 0) refl
    where
      by : (t : Bool) → eqb (step_part R n b h).size 0 ≡ t
          → held_of (buffer_of R n b h) (step_of R n b h).at (step_of R n b h).have ≡ drop (step_part R n b h).size (held_of b h.at h.have)
      by true e = rw (e, eqb-true (step_part R n b h).size 0 e) (take-append_seam (held_of b h.at h.have) _)
      by false e = rw (e, take_min b h.have) (sym (drop-drop (step_part R n b h).size h.at (take h.have b)))

  step_skip : (step_of R n b h).skip ≡ (step_part R n b h).skip
  unfolding step_of
  step_skip = by (eqb (step_part R n b h).size 0) refl
    where
      by : (t : Bool) → eqb (step_part R n b h).size 0 ≡ t → (step_of R n b h).skip ≡ (step_part R n b h).skip
      by true e = rw e
      by false e = rw e

  -- a step is one of the things that a program may do
  pub step_run : {rest out : List ℕ} → (h.last ≡ true → rest ≡ [])
      → Run R (step_of R n b h).skip (held_of (buffer_of R n b h) (step_of R n b h).at (step_of R n b h).have) rest out
      → Run R h.skip (held_of b h.at h.have) rest (text_of R n b h ++ out)
  unfolding text_of part_of
  step_run {rest} {out} end r = writes n h.skip h.last (held_of b h.at h.have) rest end (rw (step_held, step_skip) at r)

  module _ (pos : 0 < n) where
    -- where more is to be read, few bytes are held, so that a longer buffer has room
    pub reads_short : (step_of R n b h).reads ≡ true → (step_of R n b h).have ≤ most_bytes
    unfolding step_of part_of
    reads_short f = by (eqb (step_part R n b h).size 0) refl f
      where
        by : (t : Bool) → eqb (step_part R n b h).size 0 ≡ t → (step_of R n b h).reads ≡ true → (step_of R n b h).have ≤ most_bytes
        by true e f = rw e (held_short n h.skip h.last (held_of b h.at h.have) pos (eqb-true (step_part R n b h).size 0 e))
        by false e f =
            let g : false ≡ true = rw e at f in
            absurd (not_both g)

    -- where all is done, no more is to be read and nothing is held
    pub done_none : (step_of R n b h).done ≡ true → (h.last ≡ true) × (held_of b h.at h.have ≡ [])
    unfolding step_of part_of
    done_none f = by (eqb (step_part R n b h).size 0) refl f
      where
        by : (t : Bool) → eqb (step_part R n b h).size 0 ≡ t → (step_of R n b h).done ≡ true → (h.last ≡ true) × (held_of b h.at h.have ≡ [])
        by true e f =
            let g : h.last ≡ true = rw e at f in
            (g, held_none n h.skip (held_of b h.at h.have) pos (rw g at (eqb-true (step_part R n b h).size 0 e)))
        by false e f =
            let g : false ≡ true = rw e at f in
            absurd (not_both g)

-- a step that asks for a read leaves room for one: a line may be held, and no more
pub room_to_read : (R : Reading) {r : Held} (b : List ℕ) (h : Held) → r ≡ step_of R step_lines b h → r.reads ≡ true → r.have ≤ most_bytes
room_to_read R b h e f =
    let g : (step_of R step_lines b h).reads ≡ true = ap (λ (q : Held). q.reads) (sym e) ∙ f in
    omega (arith, reads_short R step_lines b h (omega arith) g, ap (λ (q : Held). q.have) e)

module _ (R : Reading) (n : ℕ) (b : List ℕ) (h : Held) where
  pub step_last : (step_of R n b h).last ≡ h.last
  unfolding step_of
  step_last = by (eqb (step_part R n b h).size 0) refl
    where
      by : (t : Bool) → eqb (step_part R n b h).size 0 ≡ t → (step_of R n b h).last ≡ h.last
      by true e = rw e
      by false e = rw e

  -- where all is done, nothing is held afterwards either
  pub step_done : 0 < n → (step_of R n b h).done ≡ true → held_of (buffer_of R n b h) (step_of R n b h).at (step_of R n b h).have ≡ []
  step_done pos f = step_held R n b h ∙ ap (drop (step_part R n b h).size) (done_none R n b h pos f).1 ∙ drop-nil (step_part R n b h).size

  pub buffer_length : length (buffer_of R n b h) ≡ length b
  unfolding buffer_of
  buffer_length = by (eqb (step_part R n b h).size 0) refl
    where
      by : (t : Bool) → eqb (step_part R n b h).size 0 ≡ t → length (buffer_of R n b h) ≡ length b
      by true e =
          let l = length_held b h.at h.have in
          rw e (put_length b 0 (held_of b h.at h.have) (omega (arith, l, min-le_right h.have (length b))))
      by false e = rw e

  -- as much less is held as is done with
  pub held_length : length (held_of (buffer_of R n b h) (step_of R n b h).at (step_of R n b h).have) + (step_part R n b h).size ≡ length (held_of b h.at h.have)
  unfolding part_of
  held_length =
      let l = part_size_le n h.skip h.last (held_of b h.at h.have) in
      rw (step_held R n b h, length-drop) (omega (arith, l))

  -- more is to be read only before the end of the input, and behind what stands at the start
  pub reads_open : (step_of R n b h).reads ≡ true → (h.last ≡ false) × ((step_of R n b h).at ≡ 0)
  unfolding step_of
  reads_open f = by (eqb (step_part R n b h).size 0) refl h.last refl f
    where
      by : (t : Bool) → eqb (step_part R n b h).size 0 ≡ t → (l : Bool) → h.last ≡ l → (step_of R n b h).reads ≡ true → (h.last ≡ false) × ((step_of R n b h).at ≡ 0)
      by true e false g f = (g, rw e)
      by true e true g f =
          let z : false ≡ true = rw (e, g) at f in
          absurd (not_both z)
      by false e l g f =
          let z : false ≡ true = rw e at f in
          absurd (not_both z)

  -- what a step asks for: more, or the end, where it does with nothing
  module _ (e : eqb (step_part R n b h).size 0 ≡ true) where
    pub idle_open : h.last ≡ false → (step_of R n b h).reads ≡ true
    unfolding step_of
    idle_open f = rw (e, f)

    pub idle_last : h.last ≡ true → ((step_of R n b h).reads ≡ false) × ((step_of R n b h).done ≡ true)
    unfolding step_of
    idle_last f = (rw (e, f), rw (e, f))

  pub busy_quiet : eqb (step_part R n b h).size 0 ≡ false → (step_of R n b h).reads ≡ false
  unfolding step_of
  busy_quiet e = rw e
