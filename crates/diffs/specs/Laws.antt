-- What Q-9 says of the line that is handed back, as statements over two listings. Definitions only; proofs/FirstTold has the proof of each.
use Rattle.std.specs.Prelude.{ℕ, suc, ◌≡◌, cond, List, [], ◌∷◌, ltb, eqb, length, get_or}
use Rattle.cutting.specs.Lines.{lines}
use Rattle.diffs.specs.Diffs.{diff_refusal, kinds_of, first_difference}

-- the first entry that is told, counted from 0, or how many there are
unfoldable pub first_told : List ℕ → ℕ
first_told [] = 0
first_told (k ∷ ks) = cond (eqb k 0) (suc (first_told ks)) 0

-- "the first such line as it stands in its listing: the right one, or the one that goes on when the other has ended"; past the last line there is none, and then it is empty
abbrev pub FirstSuchLine : Type 0
FirstSuchLine = (s t : List ℕ) → diff_refusal s t ≡ 0
    → first_difference s t ≡ cond (ltb (first_told (kinds_of s t)) (length (lines t))) (get_or (lines t) (first_told (kinds_of s t)) []) (get_or (lines s) (first_told (kinds_of s t)) [])

-- "Equal listings and refusals hand back an empty part."
abbrev pub EmptyWhere : Type 0
EmptyWhere = ((s : List ℕ) → first_difference s s ≡ []) × ((s t : List ℕ) → (diff_refusal s t ≡ 0 → ⊥) → first_difference s t ≡ [])
