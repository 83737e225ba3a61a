-- Decimal digits are written from the last; a refusal's text and a place's by their two cases. Assumes nothing.
use Prim.Native.Nat.{ℕ, zero, suc, ◌+◌, ◌-◌, ◌/◌, ◌%◌, ◌≤◌, ◌<◌}
use mathlib.Core.List.{List, [], ◌∷◌, ◌++◌, append_assoc}
use mathlib.Core.Bool.{Bool, true, false, cond}
use mathlib.Core.Path.{◌≡◌, refl, ap, ◌∙◌}
use native.Mathlib.Nat.{add-suc}
use native.Mathlib.Omega.{arith}
use lib.Dec.{ltb, eqb}
use lib.ListN.{length, take, drop, set, length-append}
use lib.Seq.{append_snoc, drop-cons, lt-length-set, get_or-set_same, drop-set-lt, take-set-le}
use borrow.Author.Tests.{eq-eqb, ne_eqb}
use Rattle.buffers.specs.Memory.{put}
use Rattle.printing.specs.Decimal.{places, digits, refused_text, place_text, refused_at}

pub length_digits : (n v : ℕ) → length (digits n v) ≡ n
unfolding digits
length_digits zero v = refl
length_digits (suc n) v = length-append (digits n (v / 10)) _ ∙ omega (arith, length_digits n (v / 10))

-- what is to be there at the end is the same after one digit more is written
pub digit_turn : (o : List ℕ) (at i v : ℕ) → 0 < i → at + i ≤ length o
    → put o at (digits i v) ≡ put (set o (at + (i - 1)) (48 + v % 10)) at (digits (i - 1) (v / 10))
unfolding put digits
digit_turn o at zero v p h = absurd (omega arith)
digit_turn o at (suc j) v p h =
    let e : suc j - 1 ≡ j = omega arith in
    let m : ℕ = 48 + v % 10 in
    let d : drop (at + j) (set o (at + j) m) ≡ m ∷ drop (suc (at + j)) o
    = rw (drop-cons (set o (at + j) m) (at + j) 0 (lt-length-set o (at + j) m (omega arith)), get_or-set_same o (at + j) m 0 (omega arith), drop-set-lt (suc (at + j)) o (at + j) m (omega arith)) in
    rw (e, length_digits (suc j) v, length_digits j (v / 10), d, take-set-le at o (at + j) m (omega arith), add-suc, ← append_assoc)
    (append_snoc (take at o ++ digits j (v / 10)) m (drop (suc (at + j)) o))

places_le : (v : ℕ) → places v ≤ 3
unfolding places
places_le v = by (ltb v 10) (ltb v 100)
  where
    by : (a b : Bool) → cond a 1 (cond b 2 3) ≤ 3
    by true b = omega arith
    by false true = omega arith
    by false false = omega arith

abbrev pub word : List ℕ
word = 114 ∷ 101 ∷ 102 ∷ 117 ∷ 115 ∷ 101 ∷ 100 ∷ 9 ∷ []

module _ (n : ℕ) where
  pub refused_none : n ≡ 0 → refused_text n ≡ []
  unfolding refused_text
  refused_none e = rw (eq-eqb n 0 e)

  pub refused_some : (n ≡ 0 → ⊥) → refused_text n ≡ word ++ digits (places n) n
  unfolding refused_text
  refused_some h = rw (ne_eqb n 0 h)

  pub length_refused : (n ≡ 0 → ⊥) → length (refused_text n) ≡ 8 + places n
  length_refused h = ap length (refused_some h) ∙ omega (arith, length_digits (places n) n)

-- eight bytes and at most three digits
pub refused_le : (n : ℕ) → length (refused_text n) ≤ 11
unfolding refused_text
refused_le n = by (eqb n 0)
  where
    by : (b : Bool) → length (cond b [] (114 ∷ 101 ∷ 102 ∷ 117 ∷ 115 ∷ 101 ∷ 100 ∷ 9 ∷ digits (places n) n)) ≤ 11
    by true = omega arith
    by false = omega (arith, length_digits (places n) n, places_le n)

-- ---- a place

module _ (p : ℕ) where
  pub placed_none : p ≡ 0 → place_text p ≡ []
  unfolding place_text
  placed_none e = rw (eq-eqb p 0 e)

  pub placed_some : (p ≡ 0 → ⊥) → place_text p ≡ (9 ∷ []) ++ digits (places p) p
  unfolding place_text
  placed_some h = rw (ne_eqb p 0 h)

  pub length_placed : (p ≡ 0 → ⊥) → length (place_text p) ≡ 1 + places p
  length_placed h = ap length (placed_some h) ∙ omega (arith, length_digits (places p) p)

-- a tab and at most three digits
pub placed_le : (p : ℕ) → length (place_text p) ≤ 4
unfolding place_text
placed_le p = by (eqb p 0)
  where
    by : (b : Bool) → length (cond b [] (9 ∷ digits (places p) p)) ≤ 4
    by true = omega arith
    by false = omega (arith, length_digits (places p) p, places_le p)

pub refused_at_le : (n p : ℕ) → length (refused_at n p) ≤ 15
refused_at_le n p = omega (arith, length-append (refused_text n) (place_text p), refused_le n, placed_le p)
