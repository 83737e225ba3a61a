-- Line by line the places go on while the lines are the same, and so the part at the first place is the first line that is not the same in both. Assumes nothing.
use Prim.Native.Nat.{ℕ, zero, suc, ◌+◌, ◌-◌, ◌≤◌, ◌<◌, max}
use mathlib.Core.Path.{◌≡◌, refl, sym, ap, ◌∙◌}
use mathlib.Core.Bool.{Bool, true, false, cond, ◌&&◌}
use mathlib.Core.List.{List, [], ◌∷◌}
use native.Mathlib.Omega.{arith}
use borrow.Author.Tests.{eqb-true, ltb-true, ltb-false, le-ltb}
use lib.Dec.{ltb, eqb}
use lib.ListN.{length, take, drop, length-take, length-drop}
use Rattle.buffers.specs.Text.{same_bytes}
use Rattle.cutting.specs.Lines.{lines, newline_at}
use Rattle.listings.specs.Listing.{line_at, next_at, longest_listing}
use Rattle.listings.proofs.ListingLines.{lines_from, next_more}
use Rattle.std.specs.Prelude.{Option, Some, None, IfSome}
use Rattle.std.proofs.lemmas.Option.{none-some}
use Rattle.diffs.specs.declared.Side.{Side}
use Rattle.diffs.specs.declared.Side.TheVariants.{Left, Right}
use Rattle.diffs.specs.declared.Place.{Place}
use Rattle.diffs.specs.Diffs.{diff_refusal, first_line, first_difference}
use Rattle.diffs.specs.Places.{place_at, same_at, told_place, place_from, first_place, listing_of, part_at}
use Rattle.diffs.proofs.Walk.{lines_at, ended}
use Rattle.diffs.proofs.Refusals.{granted}

-- ---- a line by its place

taken_again : (n : ℕ) (l : List ℕ) → take (length (take n l)) l ≡ take n l
taken_again zero l = refl
taken_again (suc n) [] = refl
taken_again (suc n) (x ∷ l) = ap (λ (r : List ℕ). x ∷ r) (taken_again n l)

line_there : (s : List ℕ) (i : ℕ) → take (length (line_at s i)) (drop i s) ≡ line_at s i
unfolding line_at
line_there s i = taken_again (newline_at (drop i s)) (drop i s)

line_in : (s : List ℕ) (i : ℕ) → i < length s → i + length (line_at s i) ≤ length s
unfolding line_at
line_in s i h = omega (arith, length-take (newline_at (drop i s)) (drop i s), length-drop i s)

-- ---- the place of the first difference

-- a place holds a line, within its listing
pub record Holds (s t : List ℕ) (p : Option Place) (line : List ℕ) : Type 0 where
  pub part : part_at p s t ≡ line
  pub within : IfSome p (λ (q : Place). q.at + q.len ≤ length (listing_of q.side s t))

module _ (s t : List ℕ) where
  holds_nothing : Holds s t None []
  holds_nothing = record { part = refl; within = tt }

  holds_from : (n i j : ℕ) → (length s - i) + (length t - j) ≤ n → Holds s t (place_from n s i t j) (first_line (lines_at s i) (lines_at t j))
  unfolding place_from same_at told_place first_line
  holds_from zero i j h = rw ((ended s i (omega arith)).0, (ended t j (omega arith)).0) holds_nothing
  holds_from (suc n) i j h = by (ltb i (length s)) (ltb j (length t)) refl refl (holds_from n (next_at s i) (next_at t j))
    where
      by : (b c : Bool) → ltb i (length s) ≡ b → ltb j (length t) ≡ c
          → ((length s - next_at s i) + (length t - next_at t j) ≤ n → Holds s t (place_from n s (next_at s i) t (next_at t j)) (first_line (lines_at s (next_at s i)) (lines_at t (next_at t j))))
          → Holds s t (cond (b && c && same_bytes (line_at s i) (line_at t j)) (place_from n s (next_at s i) t (next_at t j)) (cond c (Some (place_at Right t j)) (cond b (Some (place_at Left s i)) None))) (first_line (lines_at s i) (lines_at t j))
      by true true e f rest =
          let x = ltb-true i (length s) e in
          let y = ltb-true j (length t) f in
          rw (lines_from s i x, lines_from t j y) (same (same_bytes (line_at s i) (line_at t j)))
        where
          same : (b : Bool) → Holds s t (cond b (place_from n s (next_at s i) t (next_at t j)) (Some (place_at Right t j))) (cond b (first_line (lines_at s (next_at s i)) (lines_at t (next_at t j))) (line_at t j))
          same true = rest (omega (arith, next_more s i (ltb-true i (length s) e), next_more t j (ltb-true j (length t) f)))
          same false = record { part = line_there t j; within = line_in t j (ltb-true j (length t) f) }
      by true false e f rest =
          rw (lines_from s i (ltb-true i (length s) e), (ended t j (ltb-false j (length t) f)).0) (record { part = line_there s i; within = line_in s i (ltb-true i (length s) e) })
      by false true e f rest =
          rw ((ended s i (ltb-false i (length s) e)).0, lines_from t j (ltb-true j (length t) f)) (record { part = line_there t j; within = line_in t j (ltb-true j (length t) f) })
      by false false e f rest = rw ((ended s i (ltb-false i (length s) e)).0, (ended t j (ltb-false j (length t) f)).0) holds_nothing

  refused_nowhere : eqb (diff_refusal s t) 0 ≡ false → first_place s t ≡ None
  unfolding first_place
  refused_nowhere f = rw f

  pub holds_first : Holds s t (first_place s t) (first_difference s t)
  unfolding first_place first_difference
  holds_first = by (eqb (diff_refusal s t) 0)
    where
      by : (b : Bool) → Holds s t (cond b (place_from (length s + length t) s 0 t 0) None) (cond b (first_line (lines s) (lines t)) [])
      by true = holds_from (length s + length t) 0 0 (omega arith)
      by false = holds_nothing

  -- ---- the walk: as many lines as may be left are looked at, and the first place does not change

  pub record Walked (i j : ℕ) : Type 0 where
    pub count : ℕ
    pub enough : (length s - i) + (length t - j) ≤ count
    pub same : place_from count s i t j ≡ place_from (length s + length t) s 0 t 0

  pub walk_start : Walked 0 0
  walk_start = record { count = length s + length t; enough = omega arith; same = refl }

  module _ {i j : ℕ} (w : Walked i j) where
    pub both_left : same_at s i t j ≡ true → (i < length s) × (j < length t)
    unfolding same_at
    both_left e = by (ltb i (length s)) (ltb j (length t)) refl refl e
      where
        by : (b c : Bool) → ltb i (length s) ≡ b → ltb j (length t) ≡ c → b && c && same_bytes (line_at s i) (line_at t j) ≡ true → (i < length s) × (j < length t)
        by true true f g x = (ltb-true i (length s) f, ltb-true j (length t) g)
        by true false f g x = absurd (let z : ◌≡◌ {A = ℕ} 0 1 = cc in omega arith)
        by false c f g x = absurd (let z : ◌≡◌ {A = ℕ} 0 1 = cc in omega arith)

    pub walk_more : same_at s i t j ≡ true → {i' j' : ℕ} → i' ≡ next_at s i → j' ≡ next_at t j → Walked i' j'
    unfolding place_from
    walk_more e {i'} {j'} f g = by w.count w.enough w.same
      where
        by : (n : ℕ) → (length s - i) + (length t - j) ≤ n → place_from n s i t j ≡ place_from (length s + length t) s 0 t 0 → Walked i' j'
        by zero h x = absurd (omega (arith, both_left e))
        by (suc n) h x = record { count = n; enough = omega (arith, f, g, both_left e, next_more s i (both_left e).0, next_more t j (both_left e).1); same = rw (f, g) (rw e at x) }

    pub walk_end : same_at s i t j ≡ false → told_place s i t j ≡ place_from (length s + length t) s 0 t 0
    unfolding place_from told_place
    walk_end e = by w.count w.enough w.same
      where
        by : (n : ℕ) → (length s - i) + (length t - j) ≤ n → place_from n s i t j ≡ place_from (length s + length t) s 0 t 0 → told_place s i t j ≡ place_from (length s + length t) s 0 t 0
        by zero h x = rw (le-ltb j (length t) (omega arith), le-ltb i (length s) (omega arith)) x
        by (suc n) h x = rw e at x

  -- ---- by what the code finds

  longest : (side : Side) → length (listing_of side s t) ≤ max (length s) (length t)
  longest Left = omega arith
  longest Right = omega arith

  module _ {p : Option Place} (e : p ≡ first_place s t) where
    found : Holds s t p (first_difference s t)
    found = rw e holds_first

    pub none_found : p ≡ None → [] ≡ first_difference s t
    none_found f = rw f at found.part

    module _ {q : Place} (f : p ≡ Some q) where
      there : Holds s t (Some q) (first_difference s t)
      there = rw f at found

      pub end_fits : q.at + q.len ≤ max (length s) (length t)
      end_fits = omega (arith, there.within, longest q.side)

      -- a listing that is not refused has at most 32,768 bytes
      pub place_few : q.at + q.len ≤ longest_listing
      place_few = by (eqb (diff_refusal s t) 0) refl
        where
          by : (b : Bool) → eqb (diff_refusal s t) 0 ≡ b → q.at + q.len ≤ longest_listing
          by true g = let h = granted s t (eqb-true (diff_refusal s t) 0 g) in omega (arith, end_fits, h.0.short, h.1.short)
          by false g = absurd (none-some q (sym (refused_nowhere g) ∙ sym e ∙ f))

      module _ {l : List ℕ} (g : l ≡ listing_of q.side s t) where
        pub end_within : q.at + q.len ≤ length l
        end_within = rw g there.within

        pub part_found : take (q.at + q.len - q.at) (drop q.at l) ≡ first_difference s t
        part_found =
            let n : q.at + q.len - q.at ≡ q.len = omega arith in
            rw (g, n) there.part
