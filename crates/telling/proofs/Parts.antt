-- A part is written line by line: what is written and what is still to be written are the part. It always fits, as 4,096 lines of at most 14 bytes do, and so does a refusal. Assumes nothing.
use Prim.Native.Nat.{ℕ, suc, ◌+◌, ◌-◌, ◌*◌, ◌≤◌, ◌<◌, min}
use mathlib.Core.Path.{◌≡◌, refl, sym, ap, ◌∙◌}
use mathlib.Core.Bool.{Bool, true, false}
use mathlib.Core.List.{List, [], ◌∷◌, ◌++◌}
use native.Mathlib.Omega.{arith}
use native.Mathlib.Numerals.{add-one}
use borrow.Author.Tests.{ltb-true, ltb-false, ne_eqb}
use lib.Dec.{ltb}
use lib.ListN.{length, take, drop, get_or, length-append, length-drop}
use lib.Seq.{drop-cons, take_all}
use Rattle.buffers.specs.Memory.{put}
use Rattle.buffers.proofs.Puts.{Made, put_nil, put_put, put_length}
use Rattle.stream.specs.Stream.{space}
use Rattle.printing.specs.Decimal.{refused_text}
use Rattle.printing.proofs.Digits.{refused_le}
use Rattle.telling.specs.declared.DiffPart.{DiffPart}
use Rattle.telling.specs.Text.{kind_text, kinds_text, part_lines, part_kinds, diff_part_text, diff_part_of}
use Rattle.telling.proofs.KindTexts.{line_room_lem}

-- ---- a part, line by line

-- of so many kinds from entry i on
abbrev rest : List ℕ → ℕ → ℕ → List ℕ
rest ks i left = take left (drop i ks)

module _ (ks : List ℕ) where
  rest_more : (i end : ℕ) → i < length ks → i < end → rest ks i (end - i) ≡ get_or ks i 0 ∷ rest ks (i + 1) (end - (i + 1))
  rest_more i end h p =
      let m : end - i ≡ suc (end - (i + 1)) = omega arith in
      rw (m, add-one i, drop-cons ks i 0 h)

  -- as many as are left, where those are fewer than a part has
  rest_whole : (done left : ℕ) → left ≡ min part_lines (length ks - done) → rest ks done left ≡ part_kinds ks done
  rest_whole done left e = by (ltb (length ks - done) part_lines) refl
    where
      by : (b : Bool) → ltb (length ks - done) part_lines ≡ b → rest ks done left ≡ part_kinds ks done
      by true f =
          let h = ltb-true (length ks - done) part_lines f in
          take_all left (drop done ks) (omega (arith, length-drop done ks)) ∙ sym (take_all part_lines (drop done ks) (omega (arith, length-drop done ks)))
      by false f =
          let h = ltb-false (length ks - done) part_lines f in
          let l : left ≡ part_lines = omega arith in
          rw l

  -- the invariant of the loop: what is written and what is still to be written are the part
  pub record Partly (done : ℕ) (o out : List ℕ) (at i end : ℕ) : Type 0 where
    pub size : length out ≡ length o
    pub room : at + (end - i) * 14 ≤ part_lines * 14
    pub used : at + length (kinds_text (suc i) (rest ks i (end - i))) ≡ length (diff_part_text 0 ks done)
    pub written : put out at (kinds_text (suc i) (rest ks i (end - i))) ≡ put o 0 (diff_part_text 0 ks done)
    pub lines : i + length (rest ks i (end - i)) ≡ done + length (part_kinds ks done)

  pub none_yet : (done end : ℕ) (o : List ℕ) → end - done ≡ min part_lines (length ks - done) → Partly done o o 0 done end
  unfolding diff_part_text
  none_yet done end o e =
      let w = rest_whole done (end - done) e in
      record { size = refl; room = omega arith; used = rw w (omega arith); written = rw w; lines = rw w }

  module _ {done : ℕ} {o out : List ℕ} {at i end : ℕ} (w : Partly done o out at i end) where
    module _ (below : i < end) (here : i < length ks) (g : space ≤ length o) where
      pub line_fits : at + length (kind_text (i + 1) (get_or ks i 0)) ≤ length out
      line_fits = omega (arith, w.room, w.size, line_room_lem (i + 1) (get_or ks i 0))

      text_more : kinds_text (suc i) (rest ks i (end - i)) ≡ kind_text (i + 1) (get_or ks i 0) ++ kinds_text (suc (i + 1)) (rest ks (i + 1) (end - (i + 1)))
      unfolding kinds_text
      text_more = rw (rest_more i end here below, add-one i)

      pub line_more : {at' : ℕ} {out' : List ℕ} → Made out at (kind_text (i + 1) (get_or ks i 0)) at' out' → Partly done o out' at' (i + 1) end
      line_more (a, b) =
          let k = kind_text (i + 1) (get_or ks i 0) in
          let t = kinds_text (suc (i + 1)) (rest ks (i + 1) (end - (i + 1))) in
          let u = ap length text_more ∙ length-append k t in
          let n = ap length (rest_more i end here below) in
          record {
            size = ap length b ∙ put_length out at k line_fits ∙ w.size;
            room = omega (arith, w.room, line_room_lem (i + 1) (get_or ks i 0));
            used = omega (arith, w.used);
            written = rw (b, a, put_put out at k line_fits t, ← text_more) w.written;
            lines = omega (arith, w.lines);
          }

    pub part_done : i ≡ end → (◌≡◌ {A = DiffPart} (record { done = end; used = at }) (diff_part_of 0 ks done)) × (out ≡ put o 0 (diff_part_text 0 ks done)) × (at ≤ space)
    unfolding diff_part_of kinds_text
    part_done e =
        let n : end - i ≡ 0 = omega arith in
        let l : end ≡ done + length (part_kinds ks done) = omega (arith, rw n at w.lines) in
        let u : at ≡ length (diff_part_text 0 ks done) = omega (arith, rw n at w.used) in
        (rw (l, u), sym (put_nil out at) ∙ (rw n at w.written), omega (arith, w.room))

-- ---- the refusal

module _ (refusal : ℕ) where
  pub refused_fits : 0 + length (refused_text refusal ++ (10 ∷ [])) ≤ space
  refused_fits = omega (arith, length-append (refused_text refusal) (10 ∷ []), refused_le refusal)

  pub refused_part : (refusal ≡ 0 → ⊥) → (ks : List ℕ) (done : ℕ) (o : List ℕ) {used : ℕ} {out : List ℕ} → Made o 0 (refused_text refusal ++ (10 ∷ [])) used out
      → (◌≡◌ {A = DiffPart} (record { done = length ks; used = used }) (diff_part_of refusal ks done)) × (out ≡ put o 0 (diff_part_text refusal ks done)) × (used ≤ space)
  unfolding diff_part_of diff_part_text
  refused_part h ks done o {used} (a, b) =
      let u : used ≡ length (refused_text refusal ++ (10 ∷ [])) = omega (arith, a) in
      rw (ne_eqb refusal 0 h) (rw u, b, omega (arith, a, refused_fits))
