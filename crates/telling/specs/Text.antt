-- What folddiff prints of the kinds of lines: 02, Q-9, "prints for each line that differs its number from 1, tab and one kind". Definitions only.
use Rattle.std.specs.Prelude.{ℕ, suc, ◌+◌, ◌<◌, ◌≤◌, cond, List, [], ◌∷◌, ◌++◌, map, ltb, eqb, length, take, drop, get_or}
use Rattle.fields.specs.Fields.{tab}
use Rattle.printing.specs.Decimal.{digits, refused_text}
use Rattle.kinds.specs.declared.Difference.TheVariants.{Alike, Missing, Refusal, OtherType, OtherValue, NanBits, ZeroSign}
use Rattle.kinds.specs.Kinds.{kind_word}
use Rattle.telling.specs.declared.DiffPart.{DiffPart}

-- how many digits a number below 100,000 has: no listing has more lines than its 32,768 bytes
unfoldable pub number_places : ℕ → ℕ
number_places v = cond (ltb v 10) 1 (cond (ltb v 100) 2 (cond (ltb v 1000) 3 (cond (ltb v 10000) 4 5)))

-- the word of a kind's number
abbrev pub word_at : ℕ → List ℕ
word_at k = get_or (map kind_word (Alike ∷ Missing ∷ Refusal ∷ OtherType ∷ OtherValue ∷ NanBits ∷ ZeroSign ∷ [])) k []

-- line n, nothing where it does not differ
unfoldable pub kind_text : ℕ → ℕ → List ℕ
kind_text n k = cond (eqb (length (word_at k)) 0) [] (digits (number_places n) n ++ (tab ∷ (word_at k ++ (10 ∷ []))))

-- lines from n on
unfoldable pub kinds_text : ℕ → List ℕ → List ℕ
kinds_text n [] = []
kinds_text n (k ∷ ks) = kind_text n k ++ kinds_text (suc n) ks

-- ---- the text in parts, each as long as so many lines may be

abbrev pub part_lines : ℕ
part_lines = 4096

-- the kinds that follow those that are done
abbrev pub part_kinds : List ℕ → ℕ → List ℕ
part_kinds ks done = take part_lines (drop done ks)

unfoldable pub diff_part_text : ℕ → List ℕ → ℕ → List ℕ
diff_part_text refusal ks done = cond (eqb refusal 0) (kinds_text (suc done) (part_kinds ks done)) (refused_text refusal ++ (10 ∷ []))

unfoldable pub diff_part_of : ℕ → List ℕ → ℕ → DiffPart
diff_part_of refusal ks done = record { done = cond (eqb refusal 0) (done + length (part_kinds ks done)) (length ks); used = length (diff_part_text refusal ks done) }

-- A program's loop over the parts, from where some lines are done: a part is printed, and the next where lines are left.
pub data Told (refusal : ℕ) (ks : List ℕ) : ℕ → List ℕ → Type 0 where
  goes : (done : ℕ) {text : List ℕ} → (diff_part_of refusal ks done).done < length ks → Told refusal ks (diff_part_of refusal ks done).done text
      → Told refusal ks done (diff_part_text refusal ks done ++ text)
  ends : (done : ℕ) → length ks ≤ (diff_part_of refusal ks done).done → Told refusal ks done (diff_part_text refusal ks done)
