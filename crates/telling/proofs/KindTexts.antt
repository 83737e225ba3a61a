-- A kind has a word from number 1 to 6, of at most seven bytes, and a line's number has at most five digits: so a line takes at most fourteen bytes. Assumes nothing.
use Prim.Native.Nat.{ℕ, zero, suc, ◌+◌, ◌≤◌, ◌<◌}
use mathlib.Core.Path.{◌≡◌, refl, sym, ◌∙◌}
use mathlib.Core.Bool.{Bool, true, false, cond, ◌||◌}
use mathlib.Core.List.{List, [], ◌∷◌, ◌++◌, append_assoc}
use native.Mathlib.Omega.{arith}
use borrow.Author.Tests.{ne_eqb, lt-ltb, eqb-true}
use lib.Dec.{ltb, eqb}
use lib.ListN.{length, length-append}
use Rattle.buffers.specs.Memory.{put}
use Rattle.buffers.proofs.Puts.{Made, Tried, made, both_made, room_left}
use Rattle.printing.specs.Decimal.{digits}
use Rattle.printing.proofs.Digits.{length_digits}
use Rattle.telling.specs.Text.{number_places, word_at, kind_text}

-- ---- words

short_word : (k : ℕ) → length (word_at k) ≤ 7
short_word zero = omega arith
short_word (suc zero) = omega arith
short_word (suc (suc zero)) = omega arith
short_word (suc (suc (suc zero))) = omega arith
short_word (suc (suc (suc (suc zero)))) = omega arith
short_word (suc (suc (suc (suc (suc zero))))) = omega arith
short_word (suc (suc (suc (suc (suc (suc zero)))))) = omega arith
short_word (suc (suc (suc (suc (suc (suc (suc k))))))) = omega arith

past : (k : ℕ) → 6 < k → true ≡ eqb k 0 || ltb 6 k
past k h = rw (ne_eqb k 0 (λ e. omega arith), lt-ltb 6 k h)

told : (k : ℕ) → eqb (length (word_at k)) 0 ≡ eqb k 0 || ltb 6 k
told zero = refl
told (suc zero) = refl
told (suc (suc zero)) = refl
told (suc (suc (suc zero))) = refl
told (suc (suc (suc (suc zero)))) = refl
told (suc (suc (suc (suc (suc zero))))) = refl
told (suc (suc (suc (suc (suc (suc zero)))))) = refl
told (suc (suc (suc (suc (suc (suc (suc k))))))) = past (suc (suc (suc (suc (suc (suc (suc k))))))) (omega arith)

empty : (l : List ℕ) → eqb (length l) 0 ≡ true → l ≡ []
empty [] e = refl
empty (x ∷ l) e = absurd (omega (arith, eqb-true (suc (length l)) 0 e))

pub wordless : (k : ℕ) → (0 < k → 6 < k) → word_at k ≡ []
wordless zero h = refl
wordless (suc k) h = empty (word_at (suc k)) (told (suc k) ∙ sym (past (suc k) (h (omega arith))))

-- the word of a number that is known
pub word_made : (o : List ℕ) (at : ℕ) {k : ℕ} (n : ℕ) {r : ℕ} {o' : List ℕ} → k ≡ n → at + length (word_at k) ≤ length o → Tried o at (word_at n) r o' → Made o at (word_at k) r o'
word_made o at n e h t = rw e (made o at (word_at n) (rw e at h) t)

-- ---- lines

few_places : (n : ℕ) → number_places n ≤ 5
unfolding number_places
few_places n = by (ltb n 10) (ltb n 100) (ltb n 1000) (ltb n 10000)
  where
    by : (a b c d : Bool) → cond a 1 (cond b 2 (cond c 3 (cond d 4 5))) ≤ 5
    by true b c d = omega arith
    by false true c d = omega arith
    by false false true d = omega arith
    by false false false true = omega arith
    by false false false false = omega arith

-- a line's text, part by part
abbrev line : ℕ → ℕ → List ℕ
line n k = digits (number_places n) n ++ (9 ∷ (word_at k ++ (10 ∷ [])))

line_length : (n k : ℕ) → length (line n k) ≡ number_places n + 1 + length (word_at k) + 1
line_length n k =
    let w = length-append (word_at k) (10 ∷ []) in
    omega (arith, length-append (digits (number_places n) n) (9 ∷ (word_at k ++ (10 ∷ []))), length_digits (number_places n) n)

pub line_room_lem : (n k : ℕ) → length (kind_text n k) ≤ 14
unfolding kind_text
line_room_lem n k = by (eqb (length (word_at k)) 0)
  where
    by : (b : Bool) → length (cond b [] (line n k)) ≤ 14
    by true = omega arith
    by false = omega (arith, line_length n k, few_places n, short_word k)

module _ (n k : ℕ) where
  pub untold : eqb k 0 || ltb 6 k ≡ true → kind_text n k ≡ []
  unfolding kind_text
  untold e = rw (told k, e)

  module _ (e : eqb k 0 || ltb 6 k ≡ false) where
    told_line : kind_text n k ≡ line n k
    unfolding kind_text
    told_line = rw (told k, e)

    pub told_length : length (kind_text n k) ≡ number_places n + 1 + length (word_at k) + 1
    told_length = rw told_line (line_length n k)

    -- its parts are written one after another, and each has room
    module _ (o : List ℕ) (at : ℕ) {p : ℕ} (f : p ≡ number_places n) (h : at + length (kind_text n k) ≤ length o) where
      pub number_room : at + p ≤ length o
      number_room = omega (arith, told_length)

      module _ {a : ℕ} {o₁ : List ℕ} (m : (a ≡ at + p) × (o₁ ≡ put o at (digits p n))) where
        number_made : Made o at (digits p n) a o₁
        number_made = (omega (arith, m.0, length_digits p n), m.1)

        tab_fits : at + length (digits p n ++ (9 ∷ [])) ≤ length o
        tab_fits = omega (arith, told_length, length-append (digits p n) (9 ∷ []), length_digits p n)

        pub tab_room : a < length o₁
        tab_room = omega (arith, room_left o at (digits p n) (9 ∷ []) tab_fits number_made)

        module _ {b : ℕ} {o₂ : List ℕ} (m₂ : Made o₁ a (9 ∷ []) b o₂) where
          tab_made : Made o at (digits p n ++ (9 ∷ [])) b o₂
          tab_made = both_made o at (digits p n) (9 ∷ []) tab_fits number_made m₂

          word_fits : at + length ((digits p n ++ (9 ∷ [])) ++ word_at k) ≤ length o
          word_fits = omega (arith, told_length, length-append (digits p n ++ (9 ∷ [])) (word_at k), length-append (digits p n) (9 ∷ []), length_digits p n)

          pub word_room : b + length (word_at k) ≤ length o₂
          word_room = room_left o at (digits p n ++ (9 ∷ [])) (word_at k) word_fits tab_made

          module _ {c : ℕ} {o₃ : List ℕ} (m₃ : Made o₂ b (word_at k) c o₃) where
            all_but : Made o at ((digits p n ++ (9 ∷ [])) ++ word_at k) c o₃
            all_but = both_made o at (digits p n ++ (9 ∷ [])) (word_at k) word_fits tab_made m₃

            joined : ((digits p n ++ (9 ∷ [])) ++ word_at k) ++ (10 ∷ []) ≡ kind_text n k
            joined = rw (told_line, f) (simp append_assoc)

            newline_fits : at + length (((digits p n ++ (9 ∷ [])) ++ word_at k) ++ (10 ∷ [])) ≤ length o
            newline_fits = rw joined h

            pub newline_room : c < length o₃
            newline_room = omega (arith, room_left o at ((digits p n ++ (9 ∷ [])) ++ word_at k) (10 ∷ []) newline_fits all_but)

            pub line_made : {r : ℕ} {o₄ : List ℕ} → Made o₃ c (10 ∷ []) r o₄ → Made o at (kind_text n k) r o₄
            line_made m₄ = rw joined at (both_made o at ((digits p n ++ (9 ∷ [])) ++ word_at k) (10 ∷ []) newline_fits all_but m₄)
