-- A part's text and that of the lines after it are the text of the lines from its first on. So the parts that a program prints one after another, and there always are such, are the whole text: of two listings what folddiff prints, wherever the memory has room for the kinds of any two listings. Assumes nothing.
use Prim.Native.Nat.{ℕ, zero, suc, ◌+◌, ◌-◌, ◌≤◌, ◌<◌}
use mathlib.Core.Path.{◌≡◌, refl, sym, ap, ◌∙◌}
use mathlib.Core.Bool.{Bool, true, false, cond}
use mathlib.Core.List.{List, [], ◌∷◌, ◌++◌, append_assoc, append-nil}
use native.Mathlib.Omega.{arith}
use borrow.Author.Tests.{eqb-true, ltb-true, ltb-false, le-ltb}
use lib.Dec.{ltb, eqb}
use lib.ListN.{length, take, drop, length-take, length-drop, take-append-drop, drop_of_length-le}
use lib.Seq.{drop-drop}
use Rattle.cutting.specs.Lines.{lines, on_first}
use Rattle.printing.specs.Decimal.{refused_text}
use Rattle.listings.specs.Listing.{longest_listing}
use Rattle.diffs.specs.Diffs.{diff_refusal, kinds_of, diff_refusal_in, kinds_in, compared_in}
use Rattle.diffs.specs.declared.Compared.{Compared}
use Rattle.telling.specs.declared.DiffPart.{DiffPart}
use Rattle.telling.specs.Text.{kind_text, kinds_text, part_lines, part_kinds, diff_part_text, diff_part_of, Told, goes, ends}
use Rattle.diffs.specs.Text.{diff_text}
use Rattle.diffs.proofs.Walk.{kinds_count}
use Rattle.diffs.proofs.Refusals.{granted}

-- ---- two parts

text_append : (n : ℕ) (ks js : List ℕ) → kinds_text n (ks ++ js) ≡ kinds_text n ks ++ kinds_text (n + length ks) js
unfolding kinds_text
text_append n [] js =
    let e : n + 0 ≡ n = omega arith in
    rw e
text_append n (k ∷ ks) js =
    let e : n + suc (length ks) ≡ suc n + length ks = omega arith in
    rw (e, text_append (suc n) ks js) (sym (append_assoc (kind_text n k) (kinds_text (suc n) ks) (kinds_text (suc n + length ks) js)))

drop_taken : (n : ℕ) (l : List ℕ) → drop (length (take n l)) l ≡ drop n l
drop_taken zero l = refl
drop_taken (suc n) [] = refl
drop_taken (suc n) (x ∷ l) = drop_taken n l

module _ (ks : List ℕ) (done : ℕ) where
  pub parts_join : kinds_text (suc done) (drop done ks) ≡ diff_part_text 0 ks done ++ kinds_text (suc (diff_part_of 0 ks done).done) (drop (diff_part_of 0 ks done).done ks)
  unfolding diff_part_text diff_part_of
  parts_join =
      let part = part_kinds ks done in
      let e : suc done + length part ≡ suc (done + length part) = omega arith in
      let d : drop part_lines (drop done ks) ≡ drop (done + length part) ks = sym (drop_taken part_lines (drop done ks)) ∙ drop-drop (length part) done ks in
      ap (kinds_text (suc done)) (sym (take-append-drop part_lines (drop done ks))) ∙ text_append (suc done) part (drop part_lines (drop done ks)) ∙ rw (d, e)

-- ---- all parts

-- what is left to print
abbrev text_from : ℕ → List ℕ → ℕ → List ℕ
text_from refusal ks done = cond (eqb refusal 0) (kinds_text (suc done) (drop done ks)) (refused_text refusal ++ (10 ∷ []))

module _ (refusal : ℕ) (ks : List ℕ) where
  last_part : (done : ℕ) → length ks ≤ (diff_part_of refusal ks done).done → diff_part_text refusal ks done ≡ text_from refusal ks done
  unfolding diff_part_text diff_part_of kinds_text
  last_part done = by (eqb refusal 0)
    where
      by : (b : Bool) → length ks ≤ cond b (done + length (part_kinds ks done)) (length ks)
          → cond b (kinds_text (suc done) (part_kinds ks done)) (refused_text refusal ++ (10 ∷ [])) ≡ cond b (kinds_text (suc done) (drop done ks)) (refused_text refusal ++ (10 ∷ []))
      by true h = sym (parts_join ks done ∙ rw (drop_of_length-le ks h) (append-nil (kinds_text (suc done) (part_kinds ks done))))
      by false h = refl

  next_part : (done : ℕ) → (diff_part_of refusal ks done).done < length ks → diff_part_text refusal ks done ++ text_from refusal ks (diff_part_of refusal ks done).done ≡ text_from refusal ks done
  unfolding diff_part_text diff_part_of
  next_part done = by (eqb refusal 0)
    where
      by : (b : Bool) → cond b (done + length (part_kinds ks done)) (length ks) < length ks
          → cond b (kinds_text (suc done) (part_kinds ks done)) (refused_text refusal ++ (10 ∷ []))
          ++ cond b (kinds_text (suc (cond b (done + length (part_kinds ks done)) (length ks))) (drop (cond b (done + length (part_kinds ks done)) (length ks)) ks)) (refused_text refusal ++ (10 ∷ []))
          ≡ cond b (kinds_text (suc done) (drop done ks)) (refused_text refusal ++ (10 ∷ []))
      by true h = sym (parts_join ks done)
      by false h = absurd (omega arith)

  -- however many there are, they are the text
  pub parts_text : {done : ℕ} {text : List ℕ} → Told refusal ks done text → text ≡ text_from refusal ks done
  parts_text (ends done h) = last_part done h
  parts_text (goes done h rest) = rw (parts_text rest) (next_part done h)

  -- ---- and they come to an end

  pub record AllTold (done : ℕ) : Type 0 where
    pub text : List ℕ
    pub told : Told refusal ks done text

  goes_on : (done : ℕ) → (diff_part_of refusal ks done).done < length ks → done < (diff_part_of refusal ks done).done
  unfolding diff_part_of
  goes_on done = by (eqb refusal 0)
    where
      by : (b : Bool) → cond b (done + length (part_kinds ks done)) (length ks) < length ks → done < cond b (done + length (part_kinds ks done)) (length ks)
      by true h = omega (arith, length-take part_lines (drop done ks), length-drop done ks)
      by false h = absurd (omega arith)

  -- for a program's loop: less is left after each part, and nothing where it ends
  pub less_left : (done : ℕ) {p : DiffPart} → p ≡ diff_part_of refusal ks done → cond (ltb p.done (length ks)) (suc (length ks - p.done)) 0 < suc (length ks - done)
  less_left done e = rw e (by (ltb (diff_part_of refusal ks done).done (length ks)) refl)
    where
      by : (b : Bool) → ltb (diff_part_of refusal ks done).done (length ks) ≡ b → cond b (suc (length ks - (diff_part_of refusal ks done).done)) 0 < suc (length ks - done)
      by true h = let l = ltb-true (diff_part_of refusal ks done).done (length ks) h in omega (arith, goes_on done l)
      by false h = omega arith

  told_in_lem : (n done : ℕ) → length ks - done ≤ n → AllTold done
  told_in_lem zero done h = by (ltb (diff_part_of refusal ks done).done (length ks)) refl
    where
      by : (b : Bool) → ltb (diff_part_of refusal ks done).done (length ks) ≡ b → AllTold done
      by true e = absurd (omega (arith, ltb-true (diff_part_of refusal ks done).done (length ks) e, goes_on done (ltb-true (diff_part_of refusal ks done).done (length ks) e)))
      by false e = record { text = diff_part_text refusal ks done; told = ends done (ltb-false (diff_part_of refusal ks done).done (length ks) e) }
  told_in_lem (suc n) done h = by (ltb (diff_part_of refusal ks done).done (length ks)) refl (told_in_lem n (diff_part_of refusal ks done).done)
    where
      by : (b : Bool) → ltb (diff_part_of refusal ks done).done (length ks) ≡ b → (length ks - (diff_part_of refusal ks done).done ≤ n → AllTold (diff_part_of refusal ks done).done) → AllTold done
      by true e rest =
          let l = ltb-true (diff_part_of refusal ks done).done (length ks) e in
          let r = rest (omega (arith, goes_on done l)) in
          record { text = diff_part_text refusal ks done ++ r.text; told = goes done l r.told }
      by false e rest = record { text = diff_part_text refusal ks done; told = ends done (ltb-false (diff_part_of refusal ks done).done (length ks) e) }

  pub all_told : AllTold 0
  all_told = told_in_lem (length ks) 0 (omega arith)

-- ---- of two listings

-- no listing has more lines than bytes
lines_le : (s : List ℕ) → length (lines s) ≤ length s
unfolding lines on_first
lines_le [] = omega arith
lines_le (x ∷ xs) = by (eqb x 10) (lines xs) (lines_le xs)
  where
    by : (b : Bool) (ls : List (List ℕ)) → length ls ≤ length xs → length (cond b ([] ∷ ls) (on_first x ls)) ≤ suc (length xs)
    by true ls h = omega arith
    by false [] h = omega arith
    by false (l ∷ ls) h = omega arith

pub few_kinds : (s t : List ℕ) → diff_refusal s t ≡ 0 → length (kinds_of s t) ≤ longest_listing
few_kinds s t e =
    let g = granted s t e in
    omega (arith, kinds_count s t, lines_le s, lines_le t, g.0.short, g.1.short)

pub count_few : (room : ℕ) (s t : List ℕ) {c : Compared} → c ≡ compared_in room s t → c.count ≤ longest_listing
unfolding compared_in kinds_in diff_refusal_in
count_few room s t e = rw e (by (eqb (diff_refusal s t) 0) refl (ltb room (length (kinds_of s t))))
  where
    by : (b : Bool) → eqb (diff_refusal s t) 0 ≡ b → (u : Bool) → length (cond (eqb (cond b (cond u 8 0) (diff_refusal s t)) 0) (kinds_of s t) []) ≤ longest_listing
    by true f true = omega arith
    by true f false = few_kinds s t (eqb-true (diff_refusal s t) 0 f)
    by false f u = rw f (omega arith)

pub listings_told : (room : ℕ) (s t : List ℕ) {text : List ℕ} → longest_listing ≤ room → Told (compared_in room s t).refusal (kinds_in room s t) 0 text → text ≡ diff_text s t
unfolding compared_in kinds_in diff_refusal_in diff_text
listings_told room s t h told = parts_text (diff_refusal_in room s t) (kinds_in room s t) told ∙ by (eqb (diff_refusal s t) 0) refl
  where
    by : (b : Bool) → eqb (diff_refusal s t) 0 ≡ b → text_from (diff_refusal_in room s t) (kinds_in room s t) 0 ≡ cond b (kinds_text 1 (kinds_of s t)) (refused_text (diff_refusal s t) ++ (10 ∷ []))
    by true e = rw (e, le-ltb room (length (kinds_of s t)) (omega (arith, few_kinds s t (eqb-true (diff_refusal s t) 0 e))))
    by false e = rw (e, e)
