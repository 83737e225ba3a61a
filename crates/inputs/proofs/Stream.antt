-- Whatever way the input is cut into pieces, what is written is what is printed for all of it.
use Prim.Native.Nat.{ℕ, zero, suc, ◌<◌, ◌≤◌}
use mathlib.Core.List.{List, [], ◌++◌, append_assoc, append-nil}
use mathlib.Core.Bool.{Bool, true, false, ◌||◌, cond}
use mathlib.Core.Path.{◌≡◌, refl, ap, sym, ◌∙◌}
use native.Mathlib.Omega.{arith}
use lib.ListN.{length, take, drop, length-append, length-drop}
use lib.Seq.{drop-length, drop-drop, take_all}
use lib.Dec.{ltb, eqb}
use borrow.Author.Tests.{lt-ltb, ltb-true, ltb-false, eqb-true, eqb-false}
use Rattle.readings.specs.declared.Reading.{Reading}
use Rattle.buffers.specs.Text.{place_of}
use Rattle.buffers.proofs.FirstPlace.{place_le}
use Rattle.cutting.specs.Lines.{newline_at, lines, after_newline}
use Rattle.builtins.specs.Fold.{refused}
use Rattle.lines.specs.Line.{line_of, refusal_of, fault_place}
use Rattle.cutting.specs.Cutting.{most_bytes, ended, over, due, piece_size, piece_skip}
use Rattle.stream.specs.Printed.{answer_text, answer_line, answer_lines, printed, printed_from}
use Rattle.stream.specs.Stream.{piece_text, part_text, part_size, part_skip}
use Rattle.inputs.specs.Runs.{Run, reads, writes, ends}
use Rattle.cutting.proofs.Sizes.{size_le}
use Rattle.cutting.proofs.Cut.{lines_ended, lines_open, after_ended, after_open}

-- all lines that are too long have one answer
long_line : (R : Reading) (l : List ℕ) → most_bytes < length l → line_of R l ≡ refused 7
unfolding line_of
long_line R l h = rw (lt-ltb most_bytes (length l) h)

long : (R : Reading) (l : List ℕ) → most_bytes < length l → (refusal_of R l ≡ 7) × (fault_place R l ≡ 0)
unfolding refusal_of fault_place refused
long R l h = rw (long_line R l h) (refl, refl)

pub same_long : (R : Reading) (l m : List ℕ) → most_bytes < length l → most_bytes < length m → answer_line R l ≡ answer_line R m
unfolding answer_line answer_text
same_long R l m h k = rw ((long R l h).0, (long R l h).1, (long R m k).0, (long R m k).1)

module _ (R : Reading) (s rest : List ℕ) where
  printed_ended : newline_at s < length s → printed R (s ++ rest) ≡ answer_line R (take (newline_at s) s) ++ printed R (drop (suc (newline_at s)) s ++ rest)
  unfolding printed answer_lines
  printed_ended h = rw (lines_ended rest s h)

  printed_open : newline_at s ≡ length s → 0 < length s → printed R (s ++ rest) ≡ answer_line R (s ++ take (newline_at rest) rest) ++ printed R (after_newline rest)
  unfolding printed answer_lines
  printed_open h p = rw (lines_open rest s h p)

  -- one line
  pub piece : (skip last : Bool) → (last ≡ true → rest ≡ [])
      → printed_from R skip (s ++ rest) ≡ piece_text R skip last s ++ printed_from R (piece_skip skip s) (drop (piece_size skip last s) s ++ rest)
  unfolding printed_from piece_text piece_skip piece_size due place_of after_newline
  piece skip last end = by (ended s) refl skip
    where
      last_by : (q : Bool) → ltb 0 (length s) ≡ q → over s ≡ false → ended s ≡ false → newline_at s ≡ length s → rest ≡ []
          → printed_from R false (s ++ rest) ≡ piece_text R false true s ++ printed_from R (piece_skip false s) (drop (piece_size false true s) s ++ rest)
      last_by true g e f n z =
          rw (f, e, g, drop-length s, take_all (newline_at s) s (omega arith))
          (printed_open n (ltb-true 0 (length s) g) ∙ rw (z, append-nil s))
      last_by false g e f n z =
          let k : 0 ≡ length s = omega (arith, ltb-false 0 (length s) g) in
          rw (f, e, g, drop-length s) (ap (λ (l : List ℕ). printed R (l ++ rest)) (ap (λ (i : ℕ). drop i s) k ∙ drop-length s))

      open_by : (o : Bool) → over s ≡ o → ended s ≡ false → newline_at s ≡ length s → (last : Bool) → (last ≡ true → rest ≡ [])
          → printed_from R false (s ++ rest) ≡ piece_text R false last s ++ printed_from R (piece_skip false s) (drop (piece_size false last s) s ++ rest)
      open_by true e f n l end =
          let h : most_bytes < length s = ltb-true most_bytes (length s) e in
          rw (f, e, drop-length s, take_all (newline_at s) s (omega arith))
          (printed_open n (omega arith) ∙ ap (λ (t : List ℕ). t ++ printed R (after_newline rest)) (same_long R _ s (omega (arith, length-append s (take (newline_at rest) rest))) h))
      open_by false e f n false end = rw (f, e)
      open_by false e f n true end = last_by (ltb 0 (length s)) refl e f n (end refl)

      by : (b : Bool) → ended s ≡ b → (skip : Bool)
          → printed_from R skip (s ++ rest) ≡ piece_text R skip last s ++ printed_from R (piece_skip skip s) (drop (piece_size skip last s) s ++ rest)
      by true e true = rw (e, after_ended rest s (ltb-true (newline_at s) (length s) e))
      by true e false = rw e (printed_ended (ltb-true (newline_at s) (length s) e))
      by false e true =
          let n : newline_at s ≡ length s = omega (arith, place_le 10 s, ltb-false (newline_at s) (length s) e) in
          rw (e, after_open rest s n, drop-length s)
      by false e false =
          let n : newline_at s ≡ length s = omega (arith, place_le 10 s, ltb-false (newline_at s) (length s) e) in
          open_by (over s) refl e n last end

pub part : (R : Reading) (n : ℕ) (skip last : Bool) (s rest : List ℕ) → (last ≡ true → rest ≡ [])
    → printed_from R skip (s ++ rest) ≡ part_text R n skip last s ++ printed_from R (part_skip n skip last s) (drop (part_size n skip last s) s ++ rest)
unfolding part_text part_skip part_size
part R zero skip last s rest end = refl
part R (suc n) skip last s rest end =
    let d : List ℕ = drop (piece_size skip last s) s in
    let k : Bool = piece_skip skip s in
    piece R s rest skip last end
    ∙ ap (λ (t : List ℕ). piece_text R skip last s ++ t) (part R n k last d rest end)
    ∙ sym (append_assoc (piece_text R skip last s) (part_text R n k last d) _)
    ∙ ap (λ (t : List ℕ). (piece_text R skip last s ++ part_text R n k last d) ++ printed_from R (part_skip n k last d) (t ++ rest)) (drop-drop (part_size n k last d) (piece_size skip last s) s)

none : (R : Reading) (skip : Bool) → [] ≡ printed_from R skip []
unfolding printed_from printed answer_lines lines after_newline
none R true = refl
none R false = refl

-- every run writes what is printed for what is held and what is still to be read
pub whole : {R : Reading} {skip : Bool} {held rest out : List ℕ} → Run R skip held rest out → out ≡ printed_from R skip (held ++ rest)
whole {R} (reads held more rest r) = whole r ∙ ap (printed_from R _) (append_assoc held more rest)
whole {R} (writes n skip last held rest end r) = ap (λ (t : List ℕ). part_text R n skip last held ++ t) (whole r) ∙ sym (part _ n skip last held rest end)
whole (ends {skip}) = none _ skip

pub stream : {R : Reading} {input out : List ℕ} → Run R false [] input out → out ≡ printed R input
unfolding printed_from
stream r = whole r

pub part_size_le : (n : ℕ) (skip last : Bool) (s : List ℕ) → part_size n skip last s ≤ length s
unfolding part_size
part_size_le zero skip last s = omega arith
part_size_le (suc n) skip last s =
    let k = piece_size skip last s in
    omega (arith, size_le skip last s, length-drop k s, part_size_le n (piece_skip skip s) last (drop k s))

-- where nothing is done, little is held, and nothing at the end of the input
first_size : (n : ℕ) (skip last : Bool) (s : List ℕ) → 0 < n → part_size n skip last s ≡ 0 → piece_size skip last s ≡ 0
unfolding part_size
first_size zero skip last s h z = absurd (omega arith)
first_size (suc n) skip last s h z = omega (arith, z)

pub held_short : (n : ℕ) (skip last : Bool) (s : List ℕ) → 0 < n → part_size n skip last s ≡ 0 → length s ≤ most_bytes
unfolding piece_size
held_short n skip last s h z = by (ended s) (over s) refl skip last (first_size n skip last s h z)
  where
    by : (b o : Bool) → over s ≡ o → (skip last : Bool) → cond b (suc (newline_at s)) (cond (skip || o || last) (length s) 0) ≡ 0 → length s ≤ most_bytes
    by true o e skip last z = absurd (omega (arith, z))
    by false true e skip last z = by_long skip z
      where
        by_long : (skip : Bool) → cond (skip || true || last) (length s) 0 ≡ 0 → length s ≤ most_bytes
        by_long true z = omega (arith, z)
        by_long false z = omega (arith, z)
    by false false e skip last z = omega (arith, ltb-false most_bytes (length s) e)

nil : (s : List ℕ) → length s ≡ 0 → s ≡ []
nil s e = ap (λ (i : ℕ). drop i s) (sym e) ∙ drop-length s

pub held_none : (n : ℕ) (skip : Bool) (s : List ℕ) → 0 < n → part_size n skip true s ≡ 0 → s ≡ []
unfolding piece_size
held_none n skip s h z = by (ended s) (over s) skip (first_size n skip true s h z)
  where
    by : (b o skip : Bool) → cond b (suc (newline_at s)) (cond (skip || o || true) (length s) 0) ≡ 0 → s ≡ []
    by true o skip z = absurd (omega (arith, z))
    by false o true z = nil s z
    by false true false z = nil s z
    by false false false z = nil s z

-- a run that there is from a state, with what it writes
pub record Ran (R : Reading) (skip : Bool) (held rest : List ℕ) : Type 0 where
  pub out : List ℕ
  pub run : Run R skip held rest out

-- with room for one answer, all that is held is answered in the end
drained : (R : Reading) (k n : ℕ) (skip : Bool) (held : List ℕ) → 0 < n → length held ≤ k → Ran R skip held []
drained R zero n skip held h l =
    let e : held ≡ [] = nil held (omega (arith, l)) in
    rw e (record { out = []; run = ends })
drained R (suc k) n skip held h l = by (eqb (part_size n skip true held) 0) refl (drained R k n (part_skip n skip true held) (drop (part_size n skip true held) held) h)
  where
    by : (b : Bool) → eqb (part_size n skip true held) 0 ≡ b
        → (length (drop (part_size n skip true held) held) ≤ k → Ran R (part_skip n skip true held) (drop (part_size n skip true held) held) []) → Ran R skip held []
    by true e more = rw (held_none n skip held h (eqb-true (part_size n skip true held) 0 e)) (record { out = []; run = ends })
    by false e more =
        let s : 0 < part_size n skip true held = omega (arith, eqb-false (part_size n skip true held) 0 e) in
        let r = more (omega (arith, length-drop (part_size n skip true held) held)) in
        record { out = part_text R n skip true held ++ r.out; run = writes n skip true held [] (λ e. refl) r.run }

-- so every input has a run, and by `stream` all its runs write the same
pub some_run : (R : Reading) (input : List ℕ) → Ran R false [] input
some_run R input =
    let r = drained R (length input) 1 false input (omega arith) (omega arith) in
    rw (← append-nil input) (record { out = r.out; run = reads [] input [] r.run })
