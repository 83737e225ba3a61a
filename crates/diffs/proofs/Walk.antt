-- Two listings walked line by line: where one has a line left, that line and those from its next place on are its lines; one that has ended stays at its end. So the kinds that the walk finds are the kinds of the lines. Assumes nothing.
use Prim.Native.Nat.{ℕ, zero, suc, ◌+◌, ◌-◌, ◌≤◌, ◌<◌, max}
use mathlib.Core.Path.{◌≡◌, refl, sym, ap, ◌∙◌}
use mathlib.Core.Bool.{Bool, true, false, cond, ◌&&◌, ◌||◌}
use mathlib.Core.List.{List, [], ◌∷◌, map}
use native.Mathlib.Omega.{arith}
use borrow.Author.Tests.{ltb-true, ltb-false}
use lib.Dec.{ltb}
use lib.ListN.{length, drop, set, length-map, drop_of_length-le}
use lib.Seq.{drop-length}
use Rattle.buffers.specs.Text.{place_of}
use Rattle.buffers.specs.Memory.{put}
use Rattle.buffers.proofs.Puts.{put_cons}
use Rattle.cutting.specs.Lines.{lines}
use Rattle.listings.specs.Listing.{line_at, next_at}
use Rattle.listings.proofs.ListingLines.{lines_from}
use Rattle.kinds.specs.declared.Difference.{Difference}
use Rattle.kinds.specs.declared.Difference.TheVariants.{Alike, Missing}
use Rattle.kinds.specs.Kinds.{kind_number, line_kind}
use Rattle.diffs.specs.Diffs.{line_kinds, kinds_of}
use Rattle.diffs.specs.Places.{difference_at, kinds_from}

-- ---- one step

-- the lines that start at a place and after it
abbrev pub lines_at : List ℕ → ℕ → List (List ℕ)
lines_at s i = lines (drop i s)

module _ (s : List ℕ) (i : ℕ) where
  pub ended : length s ≤ i → (lines_at s i ≡ []) × (lines_at s (next_at s i) ≡ [])
  unfolding next_at lines place_of
  ended h =
      let d = drop_of_length-le s h in
      (rw d, rw (d, drop-length s))

module _ (s : List ℕ) (i : ℕ) (t : List ℕ) (j : ℕ) where
  kinds_more : ltb i (length s) || ltb j (length t) ≡ true → line_kinds (lines_at s i) (lines_at t j) ≡ difference_at s i t j ∷ line_kinds (lines_at s (next_at s i)) (lines_at t (next_at t j))
  unfolding difference_at line_kinds
  kinds_more e = by (ltb i (length s)) (ltb j (length t)) refl refl e
    where
      by : (b c : Bool) → ltb i (length s) ≡ b → ltb j (length t) ≡ c → b || c ≡ true
          → line_kinds (lines_at s i) (lines_at t j) ≡ cond (b && c) (line_kind (line_at s i) (line_at t j)) (cond (b || c) Missing Alike) ∷ line_kinds (lines_at s (next_at s i)) (lines_at t (next_at t j))
      by true true e f x = rw (lines_from s i (ltb-true i (length s) e), lines_from t j (ltb-true j (length t) f))
      by true false e f x =
          let z = ended t j (ltb-false j (length t) f) in
          rw (lines_from s i (ltb-true i (length s) e), z.0, z.1)
      by false true e f x =
          let z = ended s i (ltb-false i (length s) e) in
          rw (lines_from t j (ltb-true j (length t) f), z.0, z.1)
      by false false e f x = absurd (let z : ◌≡◌ {A = ℕ} 0 1 = cc in omega arith)

  kinds_none : ltb i (length s) || ltb j (length t) ≡ false → line_kinds (lines_at s i) (lines_at t j) ≡ []
  unfolding line_kinds
  kinds_none e = by (ltb i (length s)) (ltb j (length t)) refl refl e
    where
      by : (b c : Bool) → ltb i (length s) ≡ b → ltb j (length t) ≡ c → b || c ≡ false → line_kinds (lines_at s i) (lines_at t j) ≡ []
      by false false e f x = rw ((ended s i (ltb-false i (length s) e)).0, (ended t j (ltb-false j (length t) f)).0)
      by true c e f x = absurd (let z : ◌≡◌ {A = ℕ} 0 1 = cc in omega arith)
      by false true e f x = absurd (let z : ◌≡◌ {A = ℕ} 0 1 = cc in omega arith)

-- ---- all steps

module _ (s t : List ℕ) where
  kinds_from_lem : (n i j : ℕ) → length (line_kinds (lines_at s i) (lines_at t j)) ≡ n → kinds_from n s i t j ≡ map kind_number (line_kinds (lines_at s i) (lines_at t j))
  unfolding kinds_from
  kinds_from_lem zero i j h = by (line_kinds (lines_at s i) (lines_at t j)) h
    where
      by : (ds : List Difference) → length ds ≡ 0 → [] ≡ map kind_number ds
      by [] h = refl
      by (d ∷ ds) h = absurd (omega arith)
  kinds_from_lem (suc n) i j h = by (ltb i (length s) || ltb j (length t)) refl (kinds_from_lem n (next_at s i) (next_at t j))
    where
      by : (b : Bool) → ltb i (length s) || ltb j (length t) ≡ b
          → (length (line_kinds (lines_at s (next_at s i)) (lines_at t (next_at t j))) ≡ n → kinds_from n s (next_at s i) t (next_at t j) ≡ map kind_number (line_kinds (lines_at s (next_at s i)) (lines_at t (next_at t j))))
          → kind_number (difference_at s i t j) ∷ kinds_from n s (next_at s i) t (next_at t j) ≡ map kind_number (line_kinds (lines_at s i) (lines_at t j))
      by true e rest =
          let m = kinds_more s i t j e in
          rw (m, rest (omega (arith, ap length m)))
      by false e rest = absurd (omega (arith, ap length (kinds_none s i t j e)))

  pub kinds_walked : kinds_from (length (kinds_of s t)) s 0 t 0 ≡ kinds_of s t
  unfolding kinds_of
  kinds_walked = kinds_from_lem (length (map kind_number (line_kinds (lines s) (lines t)))) 0 0 (sym (length-map (line_kinds (lines s) (lines t)) kind_number))

-- ---- how many

length_kinds : (ls rs : List (List ℕ)) → length (line_kinds ls rs) ≡ max (length ls) (length rs)
unfolding line_kinds
length_kinds [] rs = omega (arith, length-map {A = List ℕ} rs (λ r. Missing))
length_kinds (l ∷ ls) [] = omega (arith, length_kinds ls [])
length_kinds (l ∷ ls) (r ∷ rs) = omega (arith, length_kinds ls rs)

pub kinds_count : (s t : List ℕ) → length (kinds_of s t) ≡ max (length (lines s)) (length (lines t))
unfolding kinds_of
kinds_count s t = length-map (line_kinds (lines s) (lines t)) kind_number ∙ length_kinds (lines s) (lines t)

-- ---- the kinds in lent memory

-- what is written and what is still to be written are all kinds; each turn writes one
pub kind_more : (s : List ℕ) (i : ℕ) (t : List ℕ) (j : ℕ) (o : List ℕ) (n k : ℕ) {x i' j' : ℕ} {d : Difference} → k < n → n ≤ length o
    → d ≡ difference_at s i t j → x ≡ kind_number d → i' ≡ next_at s i → j' ≡ next_at t j
    → put o k (kinds_from (n - k) s i t j) ≡ put (set o k x) (k + 1) (kinds_from (n - (k + 1)) s i' t j')
unfolding kinds_from
kind_more s i t j o n k h g e f a b =
    let m : n - k ≡ suc (n - (k + 1)) = omega arith in
    rw (f, e, a, b, m) (put_cons o k (kind_number (difference_at s i t j)) (kinds_from (n - (k + 1)) s (next_at s i) t (next_at t j)) (omega arith))
