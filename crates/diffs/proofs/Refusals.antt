-- Listings that are not refused have at most 32 KiB each, and then their counts are those of their lines. What is told and written in lent memory goes by the refusal and by what the kinds take of the room. Assumes nothing.
use Prim.Native.Nat.{ℕ, ◌≤◌, ◌<◌, max}
use mathlib.Core.Path.{◌≡◌, refl, sym, ap, ◌∙◌}
use mathlib.Core.Bool.{Bool, true, false, cond, ◌&&◌, ◌||◌}
use mathlib.Core.List.{List, []}
use native.Mathlib.Omega.{arith}
use borrow.Author.Tests.{eqb-false, ne_eqb, ltb-false}
use lib.Dec.{ltb, eqb}
use lib.ListN.{length}
use Rattle.buffers.proofs.Puts.{Given, given_refused, given_short, given_room}
use Rattle.cutting.specs.Lines.{lines}
use Rattle.listings.specs.declared.Judged.{Judged}
use Rattle.listings.specs.Listing.{longest_listing, judged_listing}
use Rattle.diffs.specs.declared.Compared.{Compared}
use Rattle.diffs.specs.Diffs.{both_refusal, diff_refusal, kinds_of, diff_refusal_in, kinds_in, compared_in}
use Rattle.diffs.specs.Places.{kinds_from}
use Rattle.diffs.proofs.Walk.{kinds_walked, kinds_count}

-- ---- listings that are not refused

pub record Granted (s : List ℕ) : Type 0 where
  pub short : length s ≤ longest_listing
  pub counted : (judged_listing s).count ≡ length (lines s)

not_long : (s : List ℕ) → eqb (judged_listing s).refusal 15 ≡ false → Granted s
unfolding judged_listing
not_long s = by (ltb longest_listing (length s)) refl
  where
    by : (b : Bool) → ltb longest_listing (length s) ≡ b → eqb (judged_listing s).refusal 15 ≡ false → Granted s
    by true e h = absurd (eqb-false (judged_listing s).refusal 15 h (rw e))
    by false e h = record { short = ltb-false longest_listing (length s) e; counted = rw e }

pub granted : (s t : List ℕ) → diff_refusal s t ≡ 0 → Granted s × Granted t
unfolding diff_refusal both_refusal
granted s t e =
    let l = (judged_listing s).refusal in
    let r = (judged_listing t).refusal in
    let n = by (eqb l 15) (eqb r 15) (eqb l 0 && eqb r 0) e in
    (not_long s n.0, not_long t n.1)
  where
    by : (a b c : Bool) → ◌≡◌ {A = ℕ} (cond (a || b) 15 (cond c 0 14)) 0 → (a ≡ false) × (b ≡ false)
    by false false c e = (refl, refl)
    by true b c e = absurd (omega arith)
    by false true c e = absurd (omega arith)

-- ---- by what the code finds

module _ (s t : List ℕ) {l r : Judged} {refusal : ℕ} (e : l ≡ judged_listing s) (f : r ≡ judged_listing t) (g : refusal ≡ both_refusal l r) where
  pub found : refusal ≡ diff_refusal s t
  unfolding diff_refusal
  found = rw (e, f) at g

  module _ (room : ℕ) {count : ℕ} (n : count ≡ max l.count r.count) where
    given : {x : ℕ} {xs : List ℕ} → Given room (length (kinds_of s t)) (diff_refusal s t) (kinds_of s t) x xs → ◌≡◌ {A = Compared} (record { refusal = x; count = length xs }) (compared_in room s t)
    unfolding compared_in kinds_in diff_refusal_in
    given (a, b) = rw (← b, ← a)

    counted : refusal ≡ 0 → count ≡ length (kinds_of s t)
    counted z =
        let k = granted s t (sym found ∙ z) in
        omega (arith, n, ap (λ (j : Judged). j.count) e, ap (λ (j : Judged). j.count) f, k.0.counted, k.1.counted, kinds_count s t)

    pub refused_so : (refusal ≡ 0 → ⊥) → ◌≡◌ {A = Compared} (record { refusal = refusal; count = 0 }) (compared_in room s t)
    refused_so h = rw found (given (given_refused room (length (kinds_of s t)) (diff_refusal s t) (kinds_of s t) (λ z. h (found ∙ z))))

    pub short_so : refusal ≡ 0 → room < count → ◌≡◌ {A = Compared} (record { refusal = 8; count = 0 }) (compared_in room s t)
    short_so z h = given (given_short room (length (kinds_of s t)) (diff_refusal s t) (kinds_of s t) (sym found ∙ z) (omega (arith, counted z)))

    pub compared_so : refusal ≡ 0 → count ≤ room → ◌≡◌ {A = Compared} (record { refusal = 0; count = count }) (compared_in room s t)
    compared_so z h = rw (counted z) (given (given_room room (length (kinds_of s t)) (diff_refusal s t) (kinds_of s t) (sym found ∙ z) (omega (arith, counted z))))

-- ---- the kinds that are written

module _ (room : ℕ) (s t : List ℕ) {c : Compared} (e : c ≡ compared_in room s t) where
  pub none_in : (c.refusal ≡ 0 → ⊥) → kinds_in room s t ≡ []
  unfolding compared_in kinds_in
  none_in h = rw (ne_eqb (diff_refusal_in room s t) 0 (λ z. h (ap (λ (d : Compared). d.refusal) e ∙ z)))

  module _ (z : c.refusal ≡ 0) where
    no_refusal : diff_refusal_in room s t ≡ 0
    unfolding compared_in
    no_refusal = sym (ap (λ (d : Compared). d.refusal) e) ∙ z

    all_in : kinds_in room s t ≡ kinds_of s t
    unfolding kinds_in
    all_in = rw no_refusal

    pub in_room : c.count ≤ room
    unfolding compared_in diff_refusal_in
    in_room = omega (arith, ap (λ (d : Compared). d.count) e, ap length all_in, by (eqb (diff_refusal s t) 0) (ltb room (length (kinds_of s t))) refl refl no_refusal)
      where
        by : (a b : Bool) → eqb (diff_refusal s t) 0 ≡ a → ltb room (length (kinds_of s t)) ≡ b → ◌≡◌ {A = ℕ} (cond a (cond b 8 0) (diff_refusal s t)) 0 → length (kinds_of s t) ≤ room
        by true true p q h = absurd (omega arith)
        by true false p q h = ltb-false room (length (kinds_of s t)) q
        by false b p q h = absurd (eqb-false (diff_refusal s t) 0 p h)

    pub walked_in : kinds_from c.count s 0 t 0 ≡ kinds_in room s t
    unfolding compared_in
    walked_in =
        let n : c.count ≡ length (kinds_of s t) = ap (λ (d : Compared). d.count) e ∙ ap length all_in in
        rw (n, all_in) (kinds_walked s t)
