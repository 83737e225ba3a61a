-- Nothing that stands before a value's fault is wrong on its own: lanes cut off before the fault's place have at most the fault that they end there. By induction on the bytes, along those that reading passes. Assumes nothing.
use Prim.Native.Nat.{ℕ, zero, suc, ◌+◌, ◌*◌, ◌-◌, ◌<◌, ◌≤◌}
use mathlib.Core.Bool.{Bool, true, false, cond}
use mathlib.Core.List.{List, [], ◌∷◌}
use mathlib.Core.Logic.{◌⊎◌, inl, inr}
use mathlib.Core.Path.{◌≡◌, refl, ap, sym, ◌∙◌}
use native.Mathlib.Nat.{add-zero}
use native.Mathlib.Omega.{arith}
use borrow.Author.Tests.{lt-ltb, le-ltb, ltb-true, ltb-false, leb-true, leb-false}
use lib.Dec.{eqb, ltb, leb, eqb-suc-zero}
use lib.ListN.{length, take, drop}
use lib.Seq.{take-take, take_all, take-nil, length-take-le}
use Rattle.values.specs.declared.Kind.{Kind}
use Rattle.values.specs.Value.{lane_count, scalar_of}
use Rattle.buffers.specs.Text.{place_of}
use Rattle.spelling.specs.declared.Fault.TheVariants.{Nothing, TypeSpelling}
use Rattle.spelling.specs.declared.Reading.{Reading}
use Rattle.spelling.specs.Types.{kind_of}
use Rattle.spelling.specs.Hex.{digit_count, digit_bound, digit_of}
use Rattle.spelling.specs.Read.{Scanned, digit_at, count_at, good, before, in_lane, after_lane, at_end, lanes_at, wrong, found, reading, colon_at, read_lanes, read_value}
use Rattle.misspellings.specs.Laws.{LeftmostIn}

-- ---- of lanes

-- no fault but at q
abbrev OnlyAt : ℕ → Scanned → Type 0
OnlyAt q (digit_at p) = p ≡ q
OnlyAt q (count_at p) = p ≡ q
OnlyAt q (good l) = q ≡ q

-- no fault before q, and one there or later
abbrev From : ℕ → Scanned → Type 0
From q (digit_at p) = q ≤ p
From q (count_at p) = q ≤ p
From q (good l) = ⊥

only_before : (q v : ℕ) (r : Scanned) → OnlyAt q r → OnlyAt q (before v r)
only_before q v (digit_at p) e = e
only_before q v (count_at p) e = e
only_before q v (good l) e = e

from_before : (q v : ℕ) (r : Scanned) → From q (before v r) → From q r
from_before q v (digit_at p) e = e
from_before q v (count_at p) e = e
from_before q v (good l) e = e

ended : (n d p v : ℕ) → OnlyAt p (at_end n d p v)
ended n d p v = by (eqb d 0) (eqb n 0)
  where
    by : (s t : Bool) → OnlyAt p (cond s (cond t (good (v ∷ [])) (count_at p)) (digit_at p))
    by true true = refl
    by true false = refl
    by false t = refl

not_past_end : (n d p v m : ℕ) → From (p + suc m) (at_end n d p v) → ⊥
not_past_end n d p v m h = by (eqb d 0) (eqb n 0) h
  where
    by : (s t : Bool) → From (p + suc m) (cond s (cond t (good (v ∷ [])) (count_at p)) (digit_at p)) → ⊥
    by true true k = k
    by true false k = omega arith
    by false t k = omega arith

-- a step of reading, where what follows keeps to it
in_lane_lem : (b p m x : ℕ) (r u : Scanned) → (From (p + 1 + m) r → OnlyAt (p + 1 + m) u) → From (p + suc m) (in_lane b p x r) → OnlyAt (p + suc m) (in_lane b p x u)
in_lane_lem b p m x r u ih h = by (ltb (digit_of x) b) h
  where
    q : p + suc m ≡ p + 1 + m
    q = omega arith

    by : (t : Bool) → From (p + suc m) (cond t r (digit_at p)) → OnlyAt (p + suc m) (cond t u (digit_at p))
    by true k = rw q (ih (rw q at k))
    by false k = absurd (omega arith)

after_lane_lem : (n p m v x : ℕ) (r u : Scanned) → (From (p + 1 + m) r → OnlyAt (p + 1 + m) u) → From (p + suc m) (after_lane n p v x r) → OnlyAt (p + suc m) (after_lane n p v x u)
after_lane_lem n p m v x r u ih h = by (eqb x 44) (eqb n 0) h
  where
    q : p + suc m ≡ p + 1 + m
    q = omega arith

    by : (s t : Bool) → From (p + suc m) (cond s (cond t (count_at p) (before v r)) (digit_at p)) → OnlyAt (p + suc m) (cond s (cond t (count_at p) (before v u)) (digit_at p))
    by true true k = absurd (omega arith)
    by true false k = rw q (only_before (p + 1 + m) v u (ih (from_before (p + 1 + m) v r (rw q at k))))
    by false t k = absurd (omega arith)

lanes_before : (b w n d p v m : ℕ) (s : List ℕ) → From (p + m) (lanes_at b w n d p v s) → OnlyAt (p + m) (lanes_at b w n d p v (take m s))
unfolding lanes_at
lanes_before b w n d p v zero s h = rw add-zero (ended n d p v)
lanes_before b w n d p v (suc m) [] h = absurd (not_past_end n d p v m h)
lanes_before b w n zero p v (suc m) (x ∷ s) h =
    after_lane_lem n p m v x (lanes_at b w (n - 1) w (p + 1) 0 s) (lanes_at b w (n - 1) w (p + 1) 0 (take m s)) (lanes_before b w (n - 1) w (p + 1) 0 m s) h
lanes_before b w n (suc d) p v (suc m) (x ∷ s) h =
    rw (eqb-suc-zero d) (in_lane_lem b p m x (lanes_at b w n (suc d - 1) (p + 1) (v * 16 + digit_of x) s) (lanes_at b w n (suc d - 1) (p + 1) (v * 16 + digit_of x) (take m s))
    (lanes_before b w n (suc d - 1) (p + 1) (v * 16 + digit_of x) m s) (rw (eqb-suc-zero d) at h))

-- ---- of a value

from_place : (k : Kind) (q : ℕ) (r : Scanned) → 0 < q → q ≤ (reading k r).place → From q r
unfolding wrong found
from_place k q (digit_at p) z h = h
from_place k q (count_at p) z h = h
from_place k q (good l) z h = omega arith

only_place : (k : Kind) (q : ℕ) (r : Scanned) → OnlyAt q r → ((reading k r).fault ≡ Nothing) ⊎ ((reading k r).place ≡ q)
unfolding wrong found
only_place k q (digit_at p) e = inr e
only_place k q (count_at p) e = inr e
only_place k q (good l) e = inl refl

value_before : (k : Kind) (p m : ℕ) (s : List ℕ) → 2 ≤ p → p + m ≤ (read_lanes k p s).place → ((read_lanes k p (take m s)).fault ≡ Nothing) ⊎ ((read_lanes k p (take m s)).place ≡ p + m)
unfolding read_lanes wrong
value_before k p m s z h = by (eqb (lane_count k) 0) h
  where
    b : ℕ
    b = digit_bound (scalar_of k)

    w : ℕ
    w = digit_count (scalar_of k)

    scan : List ℕ → Scanned
    scan l = lanes_at (digit_bound (scalar_of k)) (digit_count (scalar_of k)) (lane_count k - 1) (digit_count (scalar_of k)) p 0 l

    by : (t : Bool) → p + m ≤ (cond t (wrong TypeSpelling 1) (reading k (scan s))).place
        → ((cond t (wrong TypeSpelling 1) (reading k (scan (take m s)))).fault ≡ Nothing) ⊎ ((cond t (wrong TypeSpelling 1) (reading k (scan (take m s)))).place ≡ p + m)
    by true q = absurd (omega arith)
    by false q = only_place k (p + m) (scan (take m s)) (lanes_before b w (lane_count k - 1) w p 0 m s (from_place k (p + m) (scan s) (omega arith) q))

-- what is cut off behind the colon has the colon where it was
place_kept : (b : ℕ) (s : List ℕ) (m : ℕ) → place_of b s < m → place_of b (take m s) ≡ place_of b s
unfolding place_of
place_kept b s zero h = absurd (omega arith)
place_kept b [] (suc m) h = refl
place_kept b (x ∷ s) (suc m) h = by (eqb x b) h (place_kept b s m)
  where
    by : (t : Bool) → cond t 0 (suc (place_of b s)) < suc m → (place_of b s < m → place_of b (take m s) ≡ place_of b s) → cond t 0 (suc (place_of b (take m s))) ≡ cond t 0 (suc (place_of b s))
    by true k ih = refl
    by false k ih = ap suc (ih (omega arith))

drop_kept : (i m : ℕ) (s : List ℕ) → drop i (take m s) ≡ take (m - i) (drop i s)
drop_kept zero m s = ap (λ (k : ℕ). take k s) (less_none m)
  where
    less_none : (m : ℕ) → m ≡ m - 0
    less_none m = omega arith
drop_kept (suc i) zero s = ap (λ (k : ℕ). take k (drop (suc i) s)) (none_less i)
  where
    none_less : (i : ℕ) → 0 ≡ 0 - suc i
    none_less i = omega arith
drop_kept (suc i) (suc m) [] = sym (take-nil (suc m - suc i))
drop_kept (suc i) (suc m) (x ∷ s) = drop_kept i m s ∙ ap (λ (k : ℕ). take k (drop i s)) (both_less i m)
  where
    both_less : (i m : ℕ) → m - i ≡ suc m - suc i
    both_less i m = omega arith

colon_within : (s : List ℕ) (m : ℕ) → colon_at s < m → colon_at s < length s → colon_at s < length (take m s)
colon_within s m h k = by (leb m (length s)) refl
  where
    by : (t : Bool) → leb m (length s) ≡ t → colon_at s < length (take m s)
    by true e = rw (length-take-le m s (leb-true m (length s) e)) h
    by false e = rw (take_all m s (omega (arith, leb-false m (length s) e))) k

-- so a part of a value that reaches past its colon is read like the value, up to its end
part_read : (s : List ℕ) (m : ℕ) → colon_at s < m → colon_at s < length s
    → read_value (take m s) ≡ read_lanes (kind_of (take (colon_at s) s)) (colon_at s + 2) (take (m - (colon_at s + 1)) (drop (colon_at s + 1) s))
unfolding read_value
part_read s m h k =
    rw (place_kept 58 s m h, lt-ltb (colon_at s) (length (take m s)) (colon_within s m h k), take-take (colon_at s) m s (omega arith), drop_kept (colon_at s + 1) m s)

whole_read : (s : List ℕ) → colon_at s < length s → read_value s ≡ read_lanes (kind_of (take (colon_at s) s)) (colon_at s + 2) (drop (colon_at s + 1) s)
unfolding read_value
whole_read s k = rw (lt-ltb (colon_at s) (length s) k)

no_colon : (s : List ℕ) → length s ≤ colon_at s → (read_value s).place ≡ 1
unfolding read_value wrong
no_colon s k = rw (le-ltb (colon_at s) (length s) k)

pub before_fault : (s : List ℕ) → LeftmostIn s
before_fault s m h q = by (ltb (colon_at s) (length s)) refl
  where
    end : colon_at s < m → colon_at s + 2 + (m - (colon_at s + 1)) ≡ m + 1
    end h = omega arith

    by : (t : Bool) → ltb (colon_at s) (length s) ≡ t → ((read_value (take m s)).fault ≡ Nothing) ⊎ ((read_value (take m s)).place ≡ m + 1)
    by false e = absurd (omega (arith, no_colon s (ltb-false _ _ e)))
    by true e =
        let k = ltb-true _ _ e in
        rw (part_read s m h k, ← (end h)) (value_before (kind_of (take (colon_at s) s)) (colon_at s + 2) (m - (colon_at s + 1)) (drop (colon_at s + 1) s) (omega arith) (rw (end h) (omega (arith, ap (λ (r : Reading). r.place) (whole_read s k)))))
