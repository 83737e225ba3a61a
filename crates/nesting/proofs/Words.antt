-- The word that a text starts with, byte by byte, and what stands after it. Assumes nothing.
use Prim.Native.Nat.{ℕ, zero, suc, ◌+◌, ◌<◌, ◌≤◌}
use mathlib.Core.Bool.{Bool, true, false, cond, ◌&&◌, false≢true}
use mathlib.Core.List.{List, [], ◌∷◌, ◌++◌}
use mathlib.Core.Path.{◌≡◌, refl, ap, sym, ◌∙◌}
use native.Mathlib.Omega.{arith}
use lib.Dec.{ltb}
use lib.ListN.{length, take, drop, get_or, take-append-drop, length-append}
use borrow.Author.Tests.{ltb-true, ltb-false}
use Rattle.values.specs.Value.{every}
use Rattle.nesting.specs.Grammar.{plain, one_or_more}
use Rattle.nesting.specs.Read.{first_word}
use Rattle.std.specs.List.{prefix_len, list_all}

-- ---- in the library's words

pub first_word_taken : (l : List ℕ) → length (first_word l) ≡ prefix_len plain l
unfolding first_word
first_word_taken [] = refl
first_word_taken (x ∷ l) = by (plain x) (first_word_taken l)
  where
    by : (t : Bool) → length (first_word l) ≡ prefix_len plain l → length (cond t (x ∷ first_word l) []) ≡ cond t (1 + prefix_len plain l) 0
    by true e = omega (arith, e)
    by false e = refl

pub every_all : (p : ℕ → Bool) (w : List ℕ) → every p w ≡ list_all p w
every_all p [] = refl
every_all p (x ∷ w) = ap (λ t. p x && t) (every_all p w)

-- ---- its bytes

pub take_word : (l : List ℕ) → take (length (first_word l)) l ≡ first_word l
unfolding first_word
take_word [] = refl
take_word (x ∷ l) = by (plain x) (take_word l)
  where
    by : (t : Bool) → take (length (first_word l)) l ≡ first_word l → take (length (cond t (x ∷ first_word l) [])) (x ∷ l) ≡ cond t (x ∷ first_word l) []
    by true e = ap (λ (k : List ℕ). x ∷ k) e
    by false e = refl

pub word_front : (l : List ℕ) → l ≡ first_word l ++ drop (length (first_word l)) l
word_front l = sym (take-append-drop (length (first_word l)) l) ∙ ap (λ (w : List ℕ). w ++ drop (length (first_word l)) l) (take_word l)

pub word_within : (l : List ℕ) → length (first_word l) ≤ length l
word_within l = omega (arith, ap length (word_front l), length-append (first_word l) (drop (length (first_word l)) l))

pub word_plain : (l : List ℕ) → every plain (first_word l) ≡ true
unfolding first_word
word_plain [] = refl
word_plain (x ∷ l) = by (plain x) refl (word_plain l)
  where
    by : (t : Bool) → plain x ≡ t → every plain (first_word l) ≡ true → every plain (cond t (x ∷ first_word l) []) ≡ true
    by true q e = rw q e
    by false q e = refl

-- ---- one or more bytes

module _ (p : ℕ → Bool) where
  pub some_every : (w : List ℕ) → one_or_more p w ≡ true → every p w ≡ true
  some_every [] e = absurd (false≢true e)
  some_every (x ∷ w) e = e

  pub some_long : (w : List ℕ) → one_or_more p w ≡ true → 0 < length w
  some_long [] e = absurd (false≢true e)
  some_long (x ∷ w) e = omega arith

  pub long_some : (w : List ℕ) → 0 < length w → one_or_more p w ≡ every p w
  long_some [] h = absurd (omega arith)
  long_some (x ∷ w) h = refl

-- ---- what stands after it

pub past_end : (s : List ℕ) (i : ℕ) → length s ≤ i → get_or s i 0 ≡ 0
past_end [] i h = refl
past_end (x ∷ xs) zero h = absurd (omega arith)
past_end (x ∷ xs) (suc i) h = past_end xs i (omega arith)

-- a byte that is not 0 stands within the text
pub mark_room : (s : List ℕ) (i c : ℕ) → get_or s i 0 ≡ c → 0 < c → i < length s
mark_room s i c e n = by (ltb i (length s)) refl
  where
    by : (t : Bool) → ltb i (length s) ≡ t → i < length s
    by true q = ltb-true _ _ q
    by false q = absurd (omega (arith, past_end s i (ltb-false _ _ q)))
