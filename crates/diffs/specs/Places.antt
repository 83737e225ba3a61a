-- How the program walks two listings, and where the first difference stands. Definitions only.
use Rattle.std.specs.Prelude.{ℕ, zero, suc, ◌+◌, Bool, Option, Some, None, cond, ◌&&◌, ◌||◌, List, [], ◌∷◌, ltb, eqb, length, take, drop}
use Rattle.buffers.specs.Text.{same_bytes}
use Rattle.listings.specs.Listing.{line_at, next_at}
use Rattle.kinds.specs.declared.Difference.{Difference}
use Rattle.kinds.specs.declared.Difference.TheVariants.{Alike, Missing}
use Rattle.kinds.specs.Kinds.{kind_number, line_kind}
use Rattle.diffs.specs.declared.Side.{Side}
use Rattle.diffs.specs.declared.Side.TheVariants.{Left, Right}
use Rattle.diffs.specs.declared.Place.{Place}
use Rattle.diffs.specs.Diffs.{diff_refusal}

-- of the lines that start at places i and j
unfoldable pub difference_at : List ℕ → ℕ → List ℕ → ℕ → Difference
difference_at s i t j = cond (ltb i (length s) && ltb j (length t)) (line_kind (line_at s i) (line_at t j)) (cond (ltb i (length s) || ltb j (length t)) Missing Alike)

-- of n lines from there on
unfoldable pub kinds_from : ℕ → List ℕ → ℕ → List ℕ → ℕ → List ℕ
kinds_from zero s i t j = []
kinds_from (suc n) s i t j = kind_number (difference_at s i t j) ∷ kinds_from n s (next_at s i) t (next_at t j)

-- a line's place
abbrev pub place_at : Side → List ℕ → ℕ → Place
place_at side s at = record { side = side; at = at; len = length (line_at s at) }

-- both listings have a line there, the same to the byte
unfoldable pub same_at : List ℕ → ℕ → List ℕ → ℕ → Bool
same_at s i t j = ltb i (length s) && ltb j (length t) && same_bytes (line_at s i) (line_at t j)

-- where the lines there are not the same: "the right one, or the one that goes on when the other has ended"
unfoldable pub told_place : List ℕ → ℕ → List ℕ → ℕ → Option Place
told_place s i t j = cond (ltb j (length t)) (Some (place_at Right t j)) (cond (ltb i (length s)) (Some (place_at Left s i)) None)

-- the first of so many lines from there on that differs
unfoldable pub place_from : ℕ → List ℕ → ℕ → List ℕ → ℕ → Option Place
place_from zero s i t j = None
place_from (suc n) s i t j = cond (same_at s i t j) (place_from n s (next_at s i) t (next_at t j)) (told_place s i t j)

-- no listing has more lines than bytes
unfoldable pub first_place : List ℕ → List ℕ → Option Place
first_place s t = cond (eqb (diff_refusal s t) 0) (place_from (length s + length t) s 0 t 0) None

-- the listing on a side
abbrev pub listing_of : Side → List ℕ → List ℕ → List ℕ
listing_of Left s t = s
listing_of Right s t = t

-- what stands at a place, nothing at none
abbrev pub part_at : Option Place → List ℕ → List ℕ → List ℕ
part_at None s t = []
part_at (Some p) s t = take p.len (drop p.at (listing_of p.side s t))
