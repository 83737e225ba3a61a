-- Laws of lines and of the first newline, each by induction on the bytes. Assumes nothing.
use Prim.Native.Nat.{ℕ, suc, ◌<◌}
use mathlib.Core.List.{List, [], ◌∷◌, ◌++◌}
use mathlib.Core.Bool.{Bool, true, false, cond}
use mathlib.Core.Path.{◌≡◌, refl, ap}
use native.Mathlib.Omega.{arith}
use lib.ListN.{length, take, drop}
use lib.Dec.{eqb}
use Rattle.buffers.specs.Text.{place_of}
use Rattle.cutting.specs.Lines.{newline_at, lines, after_newline, on_first}

module _ (rest : List ℕ) where
  -- a line that is ended is the first
  pub lines_ended : (s : List ℕ) → newline_at s < length s → lines (s ++ rest) ≡ take (newline_at s) s ∷ lines (drop (suc (newline_at s)) s ++ rest)
  unfolding place_of lines on_first
  lines_ended [] h = absurd (omega arith)
  lines_ended (x ∷ xs) h = by (eqb x 10) h (lines_ended xs)
    where
      by : (b : Bool) → cond b 0 (suc (newline_at xs)) < suc (length xs)
          → (newline_at xs < length xs → lines (xs ++ rest) ≡ take (newline_at xs) xs ∷ lines (drop (suc (newline_at xs)) xs ++ rest))
          → cond b ([] ∷ lines (xs ++ rest)) (on_first x (lines (xs ++ rest)))
          ≡ take (cond b 0 (suc (newline_at xs))) (x ∷ xs) ∷ lines (drop (suc (cond b 0 (suc (newline_at xs)))) (x ∷ xs) ++ rest)
      by true k ih = refl
      by false k ih = ap (on_first x) (ih (omega arith))

  pub after_ended : (s : List ℕ) → newline_at s < length s → after_newline (s ++ rest) ≡ drop (suc (newline_at s)) s ++ rest
  unfolding place_of after_newline
  after_ended [] h = absurd (omega arith)
  after_ended (x ∷ xs) h = by (eqb x 10) h (after_ended xs)
    where
      by : (b : Bool) → cond b 0 (suc (newline_at xs)) < suc (length xs)
          → (newline_at xs < length xs → after_newline (xs ++ rest) ≡ drop (suc (newline_at xs)) xs ++ rest)
          → cond b (xs ++ rest) (after_newline (xs ++ rest)) ≡ drop (suc (cond b 0 (suc (newline_at xs)))) (x ∷ xs) ++ rest
      by true k ih = refl
      by false k ih = ih (omega arith)

  pub after_open : (s : List ℕ) → newline_at s ≡ length s → after_newline (s ++ rest) ≡ after_newline rest
  unfolding place_of after_newline
  after_open [] h = refl
  after_open (x ∷ xs) h = by (eqb x 10) h (after_open xs)
    where
      by : (b : Bool) → cond b 0 (suc (newline_at xs)) ≡ suc (length xs)
          → (newline_at xs ≡ length xs → after_newline (xs ++ rest) ≡ after_newline rest)
          → cond b (xs ++ rest) (after_newline (xs ++ rest)) ≡ after_newline rest
      by true k ih = absurd (omega arith)
      by false k ih = ih (omega arith)

-- a byte before other lines is part of the first
first : (x : ℕ) (r : List ℕ) → on_first x (lines r) ≡ (x ∷ take (newline_at r) r) ∷ lines (after_newline r)
unfolding place_of lines on_first after_newline
first x [] = refl
first x (y ∷ ys) = by (eqb y 10) (first y ys)
  where
    by : (b : Bool) → on_first y (lines ys) ≡ (y ∷ take (newline_at ys) ys) ∷ lines (after_newline ys)
        → on_first x (cond b ([] ∷ lines ys) (on_first y (lines ys)))
        ≡ (x ∷ take (cond b 0 (suc (newline_at ys))) (y ∷ ys)) ∷ lines (cond b ys (after_newline ys))
    by true ih = refl
    by false ih = ap (on_first x) ih

-- a line that is not ended goes on in what follows
join : (rest : List ℕ) (x : ℕ) (xs : List ℕ) → newline_at xs ≡ length xs
    → on_first x (lines (xs ++ rest)) ≡ (x ∷ xs ++ take (newline_at rest) rest) ∷ lines (after_newline rest)
unfolding place_of lines on_first
join rest x [] h = first x rest
join rest x (y ∷ ys) h = by (eqb y 10) h (join rest y ys)
  where
    by : (b : Bool) → cond b 0 (suc (newline_at ys)) ≡ suc (length ys)
        → (newline_at ys ≡ length ys → on_first y (lines (ys ++ rest)) ≡ (y ∷ ys ++ take (newline_at rest) rest) ∷ lines (after_newline rest))
        → on_first x (cond b ([] ∷ lines (ys ++ rest)) (on_first y (lines (ys ++ rest)))) ≡ (x ∷ y ∷ ys ++ take (newline_at rest) rest) ∷ lines (after_newline rest)
    by true k ih = absurd (omega arith)
    by false k ih = ap (on_first x) (ih (omega arith))

pub lines_open : (rest s : List ℕ) → newline_at s ≡ length s → 0 < length s
    → lines (s ++ rest) ≡ (s ++ take (newline_at rest) rest) ∷ lines (after_newline rest)
unfolding place_of lines
lines_open rest [] h p = absurd (omega arith)
lines_open rest (x ∷ xs) h p = by (eqb x 10) h
  where
    by : (b : Bool) → cond b 0 (suc (newline_at xs)) ≡ suc (length xs)
        → cond b ([] ∷ lines (xs ++ rest)) (on_first x (lines (xs ++ rest))) ≡ (x ∷ xs ++ take (newline_at rest) rest) ∷ lines (after_newline rest)
    by true k = absurd (omega arith)
    by false k = join rest x xs (omega arith)
