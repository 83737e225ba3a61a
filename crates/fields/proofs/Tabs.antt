-- The first field ends at the first tab, and the others are those of what follows it: by induction on the line. So fields taken off one after another are the line's,
-- and the tabs that end them, with those that follow the last, are all its tabs. Assumes nothing.
use Prim.Native.Nat.{ℕ, zero, suc, ◌+◌, ◌-◌, ◌<◌, ◌≤◌}
use mathlib.Core.List.{List, [], ◌∷◌}
use mathlib.Core.Bool.{Bool, true, false, cond}
use mathlib.Core.Path.{◌≡◌, refl, ap, sym, ◌∙◌}
use native.Mathlib.Nat.{zero-add}
use native.Mathlib.Numerals.{add-one}
use native.Mathlib.Omega.{arith}
use lib.ListN.{length, take, drop, get_or, drop_of_length-le}
use lib.Seq.{drop-cons, drop-drop, drop-length, length-take-le}
use lib.Dec.{ltb, eqb, leb-suc-suc}
use borrow.Author.Tests.{lt-ltb, ltb-false}
use Rattle.buffers.specs.Text.{place_of}
use Rattle.buffers.proofs.FirstPlace.{place_le}
use Rattle.fields.specs.Fields.{tab, fields, field_at, on_first, argument_count}

-- where the first tab stands, or the length
abbrev pub tab_at : List ℕ → ℕ
tab_at = place_of tab

-- what follows the first tab
abbrev rest : List ℕ → List ℕ
rest s = drop (tab_at s + 1) s

ltb_ss : (a b : ℕ) → ltb (suc a) (suc b) ≡ ltb a b
ltb_ss a b = leb-suc-suc (suc a) b

cut_by : (x : ℕ) (xs : List ℕ) (b : Bool)
    → fields xs ≡ take (tab_at xs) xs ∷ cond (ltb (tab_at xs) (length xs)) (fields (drop (suc (tab_at xs)) xs)) []
    → cond b ([] ∷ fields xs) (on_first x (fields xs))
    ≡ take (cond b 0 (suc (tab_at xs))) (x ∷ xs) ∷ cond (ltb (cond b 0 (suc (tab_at xs))) (suc (length xs))) (fields (drop (suc (cond b 0 (suc (tab_at xs)))) (x ∷ xs))) []
unfolding on_first
cut_by x xs true ih = rw (lt-ltb 0 (suc (length xs)) (omega arith))
cut_by x xs false ih = rw (ltb_ss (tab_at xs) (length xs)) (ap (on_first x) ih)

-- the first field ends at the first tab, and the others are those of what follows it
pub cut : (s : List ℕ) → fields s ≡ take (tab_at s) s ∷ cond (ltb (tab_at s) (length s)) (fields (drop (suc (tab_at s)) s)) []
unfolding fields place_of
cut [] = refl
cut (x ∷ xs) = cut_by x xs (eqb x tab) (cut xs)

-- field 0 is what stands before the first tab
pub field_here : (s : List ℕ) → field_at s 0 ≡ take (tab_at s) s
unfolding field_at
field_here s = rw (cut s)

-- and its length says where that is
pub field_length : (s : List ℕ) → length (field_at s 0) ≡ tab_at s
field_length s = rw (field_here s) (length-take-le (tab_at s) s (place_le tab s))

-- a later field is one of what follows the first tab; past the last tab both are empty
empty : (k : ℕ) → field_at [] k ≡ []
unfolding field_at fields
empty zero = refl
empty (suc k) = refl

field_next : (s : List ℕ) (k : ℕ) → field_at s (suc k) ≡ field_at (rest s) k
unfolding field_at fields
field_next s k = by (ltb (tab_at s) (length s)) refl
  where
    by : (t : Bool) → ltb (tab_at s) (length s) ≡ t → get_or (fields s) (suc k) [] ≡ get_or (fields (rest s)) k []
    by true e = rw (cut s, e, add-one)
    by false e =
        let d : rest s ≡ [] = drop_of_length-le s {i = tab_at s + 1} (omega (arith, ltb-false (tab_at s) (length s) e)) in
        rw (cut s, e, d) (sym (empty k))

-- the fields from `at` on, past one that ends n bytes further
pub field_step : (s : List ℕ) (at n k : ℕ) → 0 < k → n ≡ tab_at (drop at s) → field_at (drop at s) k ≡ field_at (drop (at + (n + 1)) s) (k - 1)
field_step s at n zero h e = absurd (omega arith)
field_step s at n (suc k) h e =
    let back : suc k - 1 ≡ k = omega arith in
    field_next (drop at s) k ∙ rw (← e, drop-drop (n + 1) at s, back)

-- where no tab follows there is no further field
pub field_missing : (t : List ℕ) (n k : ℕ) → 0 < k → n ≡ tab_at t → n ≡ length t → field_at t k ≡ []
field_missing t n zero h e l = absurd (omega arith)
field_missing t n (suc k) h e l = field_next t k ∙ rw (drop_of_length-le t {i = tab_at t + 1} (omega arith)) (empty k)

-- a byte more is counted
pub count_step : (s : List ℕ) (i x : ℕ) → i < length s → x ≡ cond (eqb (get_or s i 0) 9) 1 0 → argument_count (drop i s) ≡ x + argument_count (drop (i + 1) s)
unfolding argument_count
count_step s i x h e = rw (e, drop-cons s i 0 h, add-one)

pub count_end : (s : List ℕ) → argument_count (drop (length s) s) ≡ 0
unfolding argument_count
count_end s = rw drop-length

count_by : (b : Bool) (x : ℕ) (xs : List ℕ)
    → argument_count xs ≡ cond (ltb (tab_at xs) (length xs)) 1 0 + argument_count (drop (suc (tab_at xs)) xs)
    → cond b 1 0 + argument_count xs
    ≡ cond (ltb (cond b 0 (suc (tab_at xs))) (suc (length xs))) 1 0 + argument_count (drop (suc (cond b 0 (suc (tab_at xs)))) (x ∷ xs))
count_by true x xs ih = rw (lt-ltb 0 (suc (length xs)) (omega arith))
count_by false x xs ih = rw (ltb_ss (tab_at xs) (length xs)) (zero-add (argument_count xs) ∙ ih)

-- the first tab is counted, and those that follow it
count_next : (s : List ℕ) → argument_count s ≡ cond (ltb (tab_at s) (length s)) 1 0 + argument_count (rest s)
unfolding argument_count place_of
count_next s = rw add-one (go s)
  where
    go : (s : List ℕ) → argument_count s ≡ cond (ltb (tab_at s) (length s)) 1 0 + argument_count (drop (suc (tab_at s)) s)
    go [] = refl
    go (x ∷ xs) = count_by (eqb x tab) x xs (go xs)

-- no more tabs than bytes
pub count_most : (s : List ℕ) → argument_count s ≤ length s
unfolding argument_count
count_most [] = omega arith
count_most (x ∷ xs) = by (eqb x tab) (count_most xs)
  where
    by : (t : Bool) → argument_count xs ≤ length xs → cond t 1 0 + argument_count xs ≤ suc (length xs)
    by true ih = omega arith
    by false ih = omega arith

-- a line has one field more than tabs
field_more : (x n : ℕ) (fs : List (List ℕ)) (t : Bool) → length fs ≡ suc n → length (cond t ([] ∷ fs) (on_first x fs)) ≡ suc (cond t 1 0 + n)
unfolding on_first
field_more x n fs true e = omega arith
field_more x n [] false e = absurd (omega arith)
field_more x n (f ∷ fs) false e = omega arith

pub field_count : (s : List ℕ) → length (fields s) ≡ suc (argument_count s)
unfolding fields argument_count
field_count [] = refl
field_count (x ∷ xs) = field_more x (argument_count xs) (fields xs) (eqb x tab) (field_count xs)

-- ---- fields taken off a line, one after another

-- the first field of t has n bytes, and u is what follows it
abbrev pub Off : List ℕ → ℕ → List ℕ → Type 0
Off t n u = (n ≡ tab_at t) × (u ≡ drop (n + 1) t)

module _ (t : List ℕ) (n : ℕ) (u : List ℕ) (o : Off t n u) where
  left : u ≡ rest t
  left = o.1 ∙ ap (λ (m : ℕ). drop (m + 1) t) o.0

  next : (k : ℕ) → field_at u k ≡ field_at t (suc k)
  next k = rw left (sym (field_next t k))

  -- what stands before u's first tab
  next_first : take (tab_at u) u ≡ field_at t 1
  next_first = sym (field_here u) ∙ next 0

  pub next_length : length (field_at t 1) ≡ tab_at u
  next_length = ap length (sym (next 0)) ∙ field_length u

  counted : cond (ltb n (length t)) 1 0 + argument_count u ≡ argument_count t
  counted = rw (left, o.0) (sym (count_next t))

module _ (line t1 t2 : List ℕ) (n0 n1 : ℕ) (o : Off line n0 t1) (p : Off t1 n1 t2) where
  past_two : (k : ℕ) → field_at t2 k ≡ field_at line (suc (suc k))
  past_two k = next t1 n1 t2 p k ∙ next line n0 t1 o (suc k)

  pub third : take (tab_at t2) t2 ≡ field_at line 2
  third = sym (field_here t2) ∙ past_two 0

-- what stands before the first tab of what is left is a line's second field, third and fourth, and a number is its number of tabs
pub record Apart (line t1 t2 t3 : List ℕ) (n : ℕ) : Type 0 where
  pub field_1 : take (tab_at t1) t1 ≡ field_at line 1
  pub field_2 : take (tab_at t2) t2 ≡ field_at line 2
  pub field_3 : take (tab_at t3) t3 ≡ field_at line 3
  pub tabs : n ≡ argument_count line

module _ (line t1 t2 t3 t4 : List ℕ) (n0 n1 n2 n3 : ℕ) (o : Off line n0 t1) (p : Off t1 n1 t2) (q : Off t2 n2 t3) (r : Off t3 n3 t4) where
  pub apart : (a b c d n : ℕ) → a ≡ cond (ltb n0 (length line)) 1 0 → b ≡ cond (ltb n1 (length t1)) 1 0
      → c ≡ cond (ltb n2 (length t2)) 1 0 → d ≡ cond (ltb n3 (length t3)) 1 0 → n ≡ argument_count t4
      → Apart line t1 t2 t3 (a + b + c + d + n)
  apart a b c d n ea eb ec ed en =
      record {
        field_1 = next_first line n0 t1 o;
        field_2 = third line t1 t2 n0 n1 o p;
        field_3 = next_first t2 n2 t3 q ∙ past_two line t1 t2 n0 n1 o p 1;
        tabs = omega (arith, counted line n0 t1 o, counted t1 n1 t2 p, counted t2 n2 t3 q, counted t3 n3 t4 r);
      }
