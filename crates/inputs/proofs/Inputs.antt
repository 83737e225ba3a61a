-- Every input is read to its end: there are turns that read it byte by byte and are then done, by induction on what is left to do. They are
-- a loop over that input. Assumes nothing.
use Prim.Native.Nat.{ℕ, zero, suc, ◌+◌, ◌*◌, ◌<◌, ◌≤◌}
use mathlib.Core.List.{List, [], ◌∷◌, ◌++◌, append_assoc, append-nil}
use mathlib.Core.Bool.{Bool, true, false, cond}
use mathlib.Core.Path.{◌≡◌, refl, ap, sym, ◌∙◌}
use native.Mathlib.Omega.{arith}
use lib.Dec.{eqb}
use lib.ListN.{length, length-append}
use borrow.Author.Tests.{eqb-true, eqb-false}
use Rattle.readings.specs.declared.Reading.{Reading}
use Rattle.buffers.specs.Memory.{put}
use Rattle.buffers.proofs.Puts.{put_length}
use Rattle.cutting.specs.Cutting.{most_bytes, held_of}
use Rattle.stream.specs.Printed.{printed}
use Rattle.stream.specs.Stream.{start_of, step_part, step_of, buffer_of}
use Rattle.inputs.specs.Runs.{read_of, Loop}
use Rattle.inputs.specs.Turns.{Turn, goes, gets, turn_read, Turns, begins, follows, all_read}
use Rattle.stream.specs.declared.Held.{Held}
use Rattle.cutting.proofs.Buffer.{held_put}
use Rattle.inputs.proofs.Steps.{not_both, step_last, buffer_length, held_length, reads_short, reads_open, idle_open, idle_last, busy_quiet}
use Rattle.inputs.proofs.Turned.{all_loop, turns_print}

-- turns that read all of an input and are done
pub record ReadAll (R : Reading) (n : ℕ) (b input : List ℕ) : Type 0 where
  pub count : ℕ
  pub next : List ℕ
  pub held : Held
  pub turns : Turns R n b start_of count next held
  pub read : all_read turns ≡ input
  pub done : held.done ≡ true

-- Less is left with each turn: a byte counts twice while it is still to be read, and once while it is held; the end of the input counts
-- once until it is found.
abbrev left : List ℕ → Held → List ℕ → ℕ
left b h rest = 2 * length rest + (length (held_of b h.at h.have) + cond h.last 0 1)

-- whatever turns there were, where less than k is left there are turns that read the rest
abbrev Below : Reading → ℕ → List ℕ → ℕ → Type 0
Below R n from k =
    (j : ℕ) (b : List ℕ) (h : Held) (t : Turns R n from start_of j b h) (rest : List ℕ) → most_bytes < length b → (h.last ≡ true → rest ≡ [])
    → left b h rest < k → ReadAll R n from (all_read t ++ rest)

module _ {R : Reading} {n : ℕ} (pos : 0 < n) {from : List ℕ} {k : ℕ} (below : Below R n from k) {j : ℕ} {b : List ℕ} {h : Held} (t : Turns R n from start_of j b h) (room : most_bytes < length b) where
  -- a read of bytes that fit
  reading : (more rest : List ℕ) → (step_of R n b h).reads ≡ true → length more ≤ 1 → (length more ≡ 0 → rest ≡ [])
      → 2 * length rest + (length (held_of b h.at h.have) + (length more + cond (eqb (length more) 0) 0 1)) < k → ReadAll R n from (all_read t ++ (more ++ rest))
  unfolding all_read turn_read
  reading more rest f few end m =
      let s = step_of R n b h in
      let l = buffer_length R n b h in
      let short = reads_short R n b h pos f in
      let fits : s.have + length more ≤ length (buffer_of R n b h) = omega arith in
      let start : s.at ≤ s.have = omega (arith, (reads_open R n b h f).1) in
      let next = put (buffer_of R n b h) s.have more in
      let same = put_length (buffer_of R n b h) s.have more fits in
      let e = held_put (buffer_of R n b h) start more fits in
      let u : Turn R n b h next (read_of s (length more)) = gets {next = next} f (record { more = more; room = omega arith; fits = omega arith; held = e; state = refl }) in
      rw append_assoc at (below (suc j) next (read_of s (length more)) (follows t u) rest (omega arith) (λ g. end (eqb-true (length more) 0 g)) (omega (arith, simp length-append at (ap length e), held_length R n b h)))

  -- the next byte, or the end of the input
  next_byte : (rest : List ℕ) → (step_of R n b h).reads ≡ true → left b h rest < suc k → h.last ≡ false → ReadAll R n from (all_read t ++ rest)
  next_byte [] f m g = reading [] [] f (omega arith) (λ z. refl) (omega (arith, rw g at m))
  next_byte (x ∷ rest) f m g = reading (x ∷ []) rest f (omega arith) (λ z. absurd (omega (arith, z))) (omega (arith, rw g at m))

  one_more : (rest : List ℕ) → (h.last ≡ true → rest ≡ []) → left b h rest < suc k → ReadAll R n from (all_read t ++ rest)
  unfolding all_read turn_read
  one_more rest end m = by (eqb (step_part R n b h).size 0) refl h.last refl
    where
      by : (d : Bool) → eqb (step_part R n b h).size 0 ≡ d → (l : Bool) → h.last ≡ l → ReadAll R n from (all_read t ++ rest)
      by true e true f =
          let q = idle_last R n b h e f in
          record { count = suc j; next = buffer_of R n b h; held = step_of R n b h; turns = follows t (goes q.0); read = rw (end f); done = q.1 }
      by true e false f = next_byte rest (idle_open R n b h e f) m f
      by false e l f =
          let z = eqb-false (step_part R n b h).size 0 e in
          rw append-nil at (below (suc j) (buffer_of R n b h) (step_of R n b h) (follows t (goes (busy_quiet R n b h e))) rest (omega (arith, buffer_length R n b h)) (λ g. end (sym (step_last R n b h) ∙ g)) (rw (step_last R n b h) (omega (arith, held_length R n b h, z))))

reads_below : {R : Reading} {n : ℕ} → 0 < n → (from : List ℕ) (k : ℕ) → Below R n from k
reads_below pos from zero j b h t rest room end m = absurd (omega arith)
reads_below pos from (suc k) j b h t rest room end m = one_more pos (reads_below pos from k) t room rest end m

pub reads_all : {R : Reading} {n : ℕ} → 0 < n → (b input : List ℕ) → most_bytes < length b → ReadAll R n b input
unfolding held_of all_read
reads_all pos b input room = reads_below pos b (2 * length input + 2) 0 b start_of begins input room (λ e. absurd (not_both e)) (omega arith)

-- so every input has a loop, which prints what is stated for it
pub some_loop : {R : Reading} {n : ℕ} → 0 < n → (b input : List ℕ) → most_bytes < length b → Loop R n b start_of input (printed R input)
some_loop {R} pos b input room =
    let r = reads_all {R = R} pos b input room in
    rw (turns_print pos r.turns r.done, r.read) at (all_loop r.turns refl r.done)
