-- How two listings differ: 02, Q-9. Definitions only.
use Rattle.std.specs.Prelude.{ℕ, cond, ◌&&◌, ◌||◌, List, [], ◌∷◌, map, ltb, eqb, length}
use Rattle.buffers.specs.Text.{same_bytes}
use Rattle.cutting.specs.Lines.{lines}
use Rattle.listings.specs.declared.Judged.{Judged}
use Rattle.listings.specs.Listing.{judged_listing}
use Rattle.kinds.specs.declared.Difference.{Difference}
use Rattle.kinds.specs.declared.Difference.TheVariants.{Missing}
use Rattle.kinds.specs.Kinds.{kind_number, line_kind}
use Rattle.diffs.specs.declared.Compared.{Compared}

-- the kind of each line; "Missing: one listing has ended."
unfoldable pub line_kinds : List (List ℕ) → List (List ℕ) → List Difference
line_kinds [] rs = map (λ r. Missing) rs
line_kinds (l ∷ ls) [] = Missing ∷ line_kinds ls []
line_kinds (l ∷ ls) (r ∷ rs) = line_kind l r ∷ line_kinds ls rs

-- "14 a line that is no answer line, told before any difference, left listing first; 15 a listing over 32 KiB, before 14": 15 on either side before any 14
unfoldable pub both_refusal : Judged → Judged → ℕ
both_refusal l r = cond (eqb l.refusal 15 || eqb r.refusal 15) 15 (cond (eqb l.refusal 0 && eqb r.refusal 0) 0 14)

unfoldable pub diff_refusal : List ℕ → List ℕ → ℕ
diff_refusal s t = both_refusal (judged_listing s) (judged_listing t)

-- the kinds by number, in lent memory of some room; 8 where it has fewer entries than there are lines
unfoldable pub kinds_of : List ℕ → List ℕ → List ℕ
kinds_of s t = map kind_number (line_kinds (lines s) (lines t))

unfoldable pub diff_refusal_in : ℕ → List ℕ → List ℕ → ℕ
diff_refusal_in room s t = cond (eqb (diff_refusal s t) 0) (cond (ltb room (length (kinds_of s t))) 8 0) (diff_refusal s t)

unfoldable pub kinds_in : ℕ → List ℕ → List ℕ → List ℕ
kinds_in room s t = cond (eqb (diff_refusal_in room s t) 0) (kinds_of s t) []

unfoldable pub compared_in : ℕ → List ℕ → List ℕ → Compared
compared_in room s t = record { refusal = diff_refusal_in room s t; count = length (kinds_in room s t) }

-- "The library also hands back the first such line as it stands in its listing: the right one, or the one that goes on when the other has ended, without newline."
unfoldable pub first_line : List (List ℕ) → List (List ℕ) → List ℕ
first_line [] [] = []
first_line [] (r ∷ rs) = r
first_line (l ∷ ls) [] = l
first_line (l ∷ ls) (r ∷ rs) = cond (same_bytes l r) (first_line ls rs) r

-- "Equal listings and refusals hand back an empty part."
unfoldable pub first_difference : List ℕ → List ℕ → List ℕ
first_difference s t = cond (eqb (diff_refusal s t) 0) (first_line (lines s) (lines t)) []
