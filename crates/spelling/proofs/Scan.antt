-- What one byte does to the reading of lanes, what digits in a row do, and what the end does: each step opens the definition at one byte, and a row is as many steps. Assumes nothing.
use Prim.Native.Nat.{ℕ, suc, ◌+◌, ◌*◌, ◌-◌, ◌<◌, ◌≤◌}
use mathlib.Core.Bool.{true}
use mathlib.Core.List.{List, [], ◌∷◌, ◌++◌}
use mathlib.Core.Path.{◌≡◌, refl, ◌∙◌}
use native.Mathlib.Numerals.{add-one}
use native.Mathlib.Nat.{add_assoc, add-zero, zero-add}
use native.Mathlib.Omega.{arith}
use lib.Dec.{ltb}
use lib.ListN.{length, take, drop, get_or, length-drop, take-append-drop}
use lib.Seq.{drop-cons, drop-drop, drop-length, length-take-le}
use borrow.Author.Tests.{eq-eqb, ne_eqb, lt-ltb, le-ltb, ltb-true}
use Rattle.values.specs.Value.{lane_count, scalar_of}
use Rattle.values.proofs.Bools.{both}
use Rattle.values.specs.declared.Scalar.{Scalar}
use Rattle.values.specs.declared.Kind.{Kind}
use Rattle.spelling.specs.declared.Reading.{Reading}
use Rattle.spelling.specs.Hex.{digit_count, digit_bound, digit_of, digits_below, number}
use Rattle.spelling.specs.Read.{digit_at, count_at, before, at_end, lanes_at, reading, read_lanes}
use Rattle.spelling.proofs.ReadsBack.{digit_step}

-- one byte of the lanes
module _ (b w n d p v : ℕ) (s : List ℕ) (i : ℕ) (h : i < length s) where
  pub lane_long : d ≡ 0 → (get_or s i 0 ≡ 44 → ⊥) → lanes_at b w n d (p + i) v (drop i s) ≡ digit_at (p + i)
  unfolding lanes_at
  lane_long e f = rw (drop-cons s i 0 h, eq-eqb _ _ e, ne_eqb _ _ f)

  pub lane_surplus : d ≡ 0 → get_or s i 0 ≡ 44 → n ≡ 0 → lanes_at b w n d (p + i) v (drop i s) ≡ count_at (p + i)
  unfolding lanes_at
  lane_surplus e f g = rw (drop-cons s i 0 h, eq-eqb _ _ e, eq-eqb _ _ f, eq-eqb _ _ g)

  pub lane_next : d ≡ 0 → get_or s i 0 ≡ 44 → (n ≡ 0 → ⊥)
      → lanes_at b w n d (p + i) v (drop i s) ≡ before v (lanes_at b w (n - 1) w (p + (i + 1)) 0 (drop (i + 1) s))
  unfolding lanes_at
  lane_next e f g = rw (drop-cons s i 0 h, eq-eqb _ _ e, eq-eqb _ _ f, ne_eqb _ _ g, ← add_assoc p i 1, add-one i)

  pub digit_wrong : (d ≡ 0 → ⊥) → b ≤ digit_of (get_or s i 0) → lanes_at b w n d (p + i) v (drop i s) ≡ digit_at (p + i)
  unfolding lanes_at
  digit_wrong e f = rw (drop-cons s i 0 h, ne_eqb _ _ e, le-ltb _ _ f)

  pub digit_next : (d ≡ 0 → ⊥) → (x : ℕ) → x ≡ digit_of (get_or s i 0) → x < b
      → lanes_at b w n d (p + i) v (drop i s) ≡ lanes_at b w n (d - 1) (p + (i + 1)) (v * 16 + x) (drop (i + 1) s)
  unfolding lanes_at
  digit_next e x q f = rw (q, drop-cons s i 0 h, ne_eqb _ _ e, lt-ltb _ _ (rw q at f), ← add_assoc p i 1, add-one i)

-- digits in a row
digits_on : (b w n d p v : ℕ) (xs r : List ℕ) → digits_below b xs ≡ true → lanes_at b w n (length xs + d) p v (xs ++ r) ≡ lanes_at b w n d (p + length xs) (number v xs) r
unfolding number
digits_on b w n d p v [] r t = rw (zero-add, add-zero)
digits_on b w n d p v (x ∷ xs) r t =
    let h = both (ltb (digit_of x) b) (digits_below b xs) t in
    let e : suc (length xs) + d ≡ suc (length xs + d) = omega arith in
    let f : p + suc (length xs) ≡ p + 1 + length xs = omega arith in
    rw (e, f) (digit_step b w n (length xs + d) p v x (digit_of x) (xs ++ r) refl (ltb-true _ _ h.0) ∙ digits_on b w n d (p + 1) (v * 16 + digit_of x) xs r h.1)

-- k of those due, from i on
pub digits_some : (b w n d p v : ℕ) (s : List ℕ) (i k : ℕ) → k ≤ d → i + k ≤ length s → digits_below b (take k (drop i s)) ≡ true
    → lanes_at b w n d (p + i) v (drop i s) ≡ lanes_at b w n (d - k) (p + (i + k)) (number v (take k (drop i s))) (drop (i + k) s)
digits_some b w n d p v s i k m h t =
    let l : length (take k (drop i s)) ≡ k = length-take-le k (drop i s) (omega (arith, length-drop i s)) in
    let e : k + (d - k) ≡ d = omega arith in
    rw (← add_assoc p i k, ← drop-drop k i s) (rw (l, e, take-append-drop) at (digits_on b w n (d - k) (p + i) v (take k (drop i s)) (drop k (drop i s)) t))

-- all digits of a lane
pub digits_next : (b w n p : ℕ) (s : List ℕ) (i k : ℕ) → i + k ≤ length s → digits_below b (take k (drop i s)) ≡ true
    → lanes_at b w n k (p + i) 0 (drop i s) ≡ lanes_at b w n 0 (p + (i + k)) (number 0 (take k (drop i s))) (drop (i + k) s)
digits_next b w n p s i k h t =
    let z : k - k ≡ 0 = omega arith in
    rw z at (digits_some b w n k p 0 s i k (omega arith) h t)

-- the end of the field
pub lanes_end : (b w n d p v : ℕ) (s : List ℕ) (i : ℕ) → i ≡ length s → lanes_at b w n d (p + i) v (drop i s) ≡ at_end n d (p + i) v
unfolding lanes_at
lanes_end b w n d p v s i q = let none : drop i s ≡ [] = rw (q, drop-length) in rw none

-- the lanes of a type, by its parts as the code has them
pub lanes_of_lem : (k : Kind) (p : ℕ) (s : List ℕ) {n w b : ℕ} {t : Scalar} {r : Reading} → n ≡ lane_count k → t ≡ scalar_of k → w ≡ digit_count t → b ≡ digit_bound t
    → (n ≡ 0 → ⊥) → r ≡ reading k (lanes_at b w (n - 1) w p 0 s) → r ≡ read_lanes k p s
unfolding read_lanes
lanes_of_lem k p s {n} en et ew eb h er = er ∙ rw (eb, ew, et, ← en, ne_eqb n 0 h)
