-- Laws of one piece and of a turn of the loop over pieces.
use Prim.Native.Nat.{ℕ, zero, suc, ◌+◌, ◌-◌, ◌<◌, ◌≤◌}
use mathlib.Core.List.{List, [], ◌++◌}
use mathlib.Core.Bool.{Bool, true, false, ◌||◌, cond}
use mathlib.Core.Path.{◌≡◌, refl, ap, sym, ◌∙◌}
use native.Mathlib.Nat.{add_assoc, zero-add}
use native.Mathlib.Omega.{arith}
use lib.ListN.{length, take, drop, length-append, length-drop}
use lib.Seq.{drop-drop}
use lib.Dec.{ltb, eqb}
use borrow.Author.Tests.{ltb-true, le-ltb, eqb-true}
use Rattle.readings.specs.declared.Reading.{Reading}
use Rattle.buffers.specs.Memory.{put}
use Rattle.stream.specs.Stream.{line_room, piece_text, piece_of, part_text, part_size, part_skip}
use Rattle.stream.specs.Printed.{answer_line}
use Rattle.cutting.specs.Cutting.{most_bytes, ended, over, due, piece_size, piece_skip, first_line}
use Rattle.cutting.specs.Lines.{newline_at}
use Rattle.cutting.specs.declared.FirstLine.{FirstLine}
use Rattle.stream.specs.declared.Part.{Part}
use Rattle.buffers.proofs.Puts.{put_put}
use Rattle.cutting.proofs.Sizes.{size_le}
use Rattle.stream.proofs.Answers.{line_le}

module _ (R : Reading) (skip last : Bool) (s : List ℕ) where
  pub text_le : length (piece_text R skip last s) ≤ line_room
  unfolding piece_text
  text_le = by (due skip last s)
    where
      by : (b : Bool) → length (cond b (answer_line R (take (newline_at s) s)) []) ≤ line_room
      by true = line_le R (take (newline_at s) s)
      by false = omega arith

-- where no byte is done with, nothing is written and nothing changes
still : (R : Reading) (skip last : Bool) (s : List ℕ) → piece_size skip last s ≡ 0 → (piece_text R skip last s ≡ []) × (piece_skip skip s ≡ skip)
unfolding piece_size piece_text piece_skip due
still R skip last s z = by (ended s) refl (over s) refl skip last z
  where
    by : (b : Bool) → ended s ≡ b → (o : Bool) → over s ≡ o → (skip last : Bool)
        → cond (ended s) (suc (newline_at s)) (cond (skip || over s || last) (length s) 0) ≡ 0 → (piece_text R skip last s ≡ []) × (piece_skip skip s ≡ skip)
    by true e o f skip last z = absurd (omega (arith, rw e at z))
    by false e o f true last z = (refl, rw e)
    by false e true f false last z =
        let l = ltb-true most_bytes (length s) f in
        absurd (omega (arith, rw (e, f) at z))
    by false e false f false false z = (rw (e, f), rw (e, f))
    by false e false f false true z =
        let l : ltb 0 (length s) ≡ false = le-ltb 0 (length s) (omega (arith, rw (e, f) at z)) in
        (rw (e, f, l), rw (e, f))

idle : (R : Reading) (n : ℕ) (skip last : Bool) (s : List ℕ) → piece_size skip last s ≡ 0
    → (part_text R n skip last s ≡ []) × (part_size n skip last s ≡ 0) × (part_skip n skip last s ≡ skip)
unfolding part_text part_size part_skip
idle R zero skip last s z = (refl, refl, refl)
idle R (suc n) skip last s z =
    let t = still R skip last s z in
    let i = idle R n skip last s z in
    (rw (z, t.0, t.1) i.0, rw (z, t.1) (zero-add (part_size n skip last s) ∙ i.1), rw (z, t.1) i.2)

-- a part from where `at` bytes are done with and `used` bytes are written
abbrev pub from : Reading → ℕ → ℕ → ℕ → Bool → Bool → List ℕ → Part
from R at used n skip last s =
    record { size = at + part_size n skip last s; used = used + length (part_text R n skip last s); skip = part_skip n skip last s }

-- how many lines are left after one turn
abbrev pub next : ℕ → ℕ → ℕ
next left size = cond (eqb size 0) 0 (left - 1)

-- a part is its first line and the part after it
turn : (R : Reading) (left : ℕ) (skip last : Bool) (s : List ℕ) → 0 < left
    → (part_text R left skip last s ≡ piece_text R skip last s ++ part_text R (next left (piece_size skip last s)) (piece_skip skip s) last (drop (piece_size skip last s) s))
    × (part_size left skip last s ≡ piece_size skip last s + part_size (next left (piece_size skip last s)) (piece_skip skip s) last (drop (piece_size skip last s) s))
    × (part_skip left skip last s ≡ part_skip (next left (piece_size skip last s)) (piece_skip skip s) last (drop (piece_size skip last s) s))
unfolding part_text part_size part_skip
turn R zero skip last s h = absurd (omega arith)
turn R (suc n) skip last s h = by (eqb (piece_size skip last s) 0) refl
  where
    by : (b : Bool) → eqb (piece_size skip last s) 0 ≡ b
        → (part_text R (suc n) skip last s ≡ piece_text R skip last s ++ part_text R (cond b 0 (suc n - 1)) (piece_skip skip s) last (drop (piece_size skip last s) s))
        × (part_size (suc n) skip last s ≡ piece_size skip last s + part_size (cond b 0 (suc n - 1)) (piece_skip skip s) last (drop (piece_size skip last s) s))
        × (part_skip (suc n) skip last s ≡ part_skip (cond b 0 (suc n - 1)) (piece_skip skip s) last (drop (piece_size skip last s) s))
    by true e =
        let z = eqb-true (piece_size skip last s) 0 e in
        let i = idle R (suc n) skip last s z in
        let t = still R skip last s z in
        (i.0 ∙ sym (rw t.0), i.1 ∙ sym (rw z), i.2 ∙ sym t.1)
    by false e =
        let k : suc n - 1 ≡ n = omega arith in
        (rw k, rw k, rw k)

pub same_part : {a b c d : ℕ} {k l : Bool} → a ≡ b → c ≡ d → k ≡ l
    → ◌≡◌ {A = Part} (record { size = a; used = c; skip = k }) (record { size = b; used = d; skip = l })
same_part e f g = cc

-- one piece, as the code has its first line
module _ (R : Reading) (skip last : Bool) (s : List ℕ) {p : FirstLine} (e : p ≡ first_line skip last s) where
  pub first_text : cond p.due (answer_line R (take (p.end - 0) s)) [] ≡ piece_text R skip last s
  unfolding piece_text first_line
  first_text =
      let z : newline_at s - 0 ≡ newline_at s = omega arith in
      rw (e, z)

  pub first_piece : (at : ℕ) {used : ℕ} → used ≡ at + length (piece_text R skip last s)
      → ◌≡◌ {A = Part} (record { size = p.size; used = used; skip = p.skip }) (piece_of R at skip last s)
  unfolding piece_of first_line
  first_piece at f = rw (e, f)

module _ (R : Reading) (s : List ℕ) (at used left : ℕ) (skip last : Bool) (h : 0 < left) {p : Part} (e : p ≡ piece_of R used skip last (drop at s)) where
  pub from_turn : from R at used left skip last (drop at s) ≡ from R (at + p.size) p.used (next left p.size) p.skip last (drop (at + p.size) s)
  unfolding piece_of
  from_turn =
      let t = turn R left skip last (drop at s) h in
      let z = piece_size skip last (drop at s) in
      let x = piece_text R skip last (drop at s) in
      let y = part_text R (next left z) (piece_skip skip (drop at s)) last (drop z (drop at s)) in
      rw (e, ← drop-drop z at s)
      (same_part (ap (λ (k : ℕ). at + k) t.1 ∙ sym (add_assoc at z _)) (ap (λ (l : List ℕ). used + length l) t.0 ∙ omega (arith, length-append x y)) t.2)

  pub put_turn : (o : List ℕ) {o' : List ℕ} → used + line_room ≤ length o → o' ≡ put o used (piece_text R skip last (drop at s))
      → put o used (part_text R left skip last (drop at s)) ≡ put o' p.used (part_text R (next left p.size) p.skip last (drop (at + p.size) s))
  unfolding piece_of
  put_turn o r f =
      let t = turn R left skip last (drop at s) h in
      let z = piece_size skip last (drop at s) in
      let x = piece_text R skip last (drop at s) in
      let y = part_text R (next left z) (piece_skip skip (drop at s)) last (drop z (drop at s)) in
      rw (e, ← drop-drop z at s, f)
      (ap (put o used) t.0 ∙ sym (put_put o used x (omega (arith, text_le R skip last (drop at s))) y))

  pub size_in : at ≤ length s → at + p.size ≤ length s
  unfolding piece_of
  size_in k = rw e (omega (arith, size_le skip last (drop at s), length-drop at s))

  pub used_in : p.used ≤ used + line_room
  unfolding piece_of
  used_in = rw e (omega (arith, text_le R skip last (drop at s)))
