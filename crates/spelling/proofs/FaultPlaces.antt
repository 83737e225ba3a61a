-- A fault's place lies within the longest text of a value, or one past it: each lane that is still due moves it on by its digits and its comma. Assumes nothing.
use Prim.Native.Nat.{ℕ, zero, suc, ◌+◌, ◌*◌, ◌-◌, ◌≤◌}
use mathlib.Core.Bool.{Bool, true, false, cond}
use mathlib.Core.List.{List, [], ◌∷◌}
use mathlib.Core.Logic.{◌⊎◌, inl, inr}
use mathlib.Core.Path.{◌≡◌, refl, ap}
use native.Mathlib.Nat.{suc-mul}
use native.Mathlib.Omega.{arith}
use borrow.Author.Tests.{leb-true}
use lib.Dec.{eqb, eqb-suc-zero, ltb, leb}
use lib.ListN.{length, take, drop}
use lib.Seq.{length-take-le}
use Rattle.values.specs.declared.Kind.{Kind}
use Rattle.values.specs.declared.Kind.TheVariants.{Empty}
use Rattle.values.specs.Value.{lane_count, scalar_of}
use Rattle.values.proofs.Places.{each}
use Rattle.buffers.proofs.FirstPlace.{place_le}
use Rattle.spelling.specs.declared.Fault.TheVariants.{TypeSpelling}
use Rattle.spelling.specs.Types.{kind_of, spelled}
use Rattle.spelling.specs.Hex.{digit_count, digit_bound, digit_of}
use Rattle.spelling.specs.Read.{Scanned, digit_at, count_at, good, before, at_end, lanes_at, wrong, found, reading, colon_at, read_lanes, read_value}
use Rattle.spelling.proofs.Spellings.{none_or_spelled, at_most_11}

abbrev place_in : Scanned → ℕ
place_in (digit_at p) = p
place_in (count_at p) = p
place_in (good l) = 0

in_before : (v : ℕ) (r : Scanned) → place_in (before v r) ≡ place_in r
in_before v (digit_at p) = refl
in_before v (count_at p) = refl
in_before v (good l) = refl

either_way : (t : Bool) (x y : Scanned) (m : ℕ) → (t ≡ true → place_in x ≤ m) → (t ≡ false → place_in y ≤ m) → place_in (cond t x y) ≤ m
either_way true x y m f g = f refl
either_way false x y m f g = g refl

at_end_lem : (n d p v m : ℕ) → p ≤ m → place_in (at_end n d p v) ≤ m
at_end_lem n d p v m h =
    either_way (eqb d 0) (cond (eqb n 0) (good (v ∷ [])) (count_at p)) (digit_at p) m
    (λ _. either_way (eqb n 0) (good (v ∷ [])) (count_at p) m (λ _. omega arith) (λ _. h)) (λ _. h)

within : (b w n d p v : ℕ) (s : List ℕ) → place_in (lanes_at b w n d p v s) ≤ p + (n * (w + 1) + d)
unfolding lanes_at
within b w n d p v [] = at_end_lem n d p v _ (omega arith)
within b w zero zero p v (x ∷ s) =
    either_way (eqb x 44) (count_at p) (digit_at p) _ (λ _. omega arith) (λ _. omega arith)
within b w (suc m) zero p v (x ∷ s) =
    let e : suc m - 1 ≡ m = omega arith in
    let next = lanes_at b w (suc m - 1) w (p + 1) 0 s in
    let h = within b w (suc m - 1) w (p + 1) 0 s in
    either_way (eqb x 44) (cond (eqb (suc m) 0) (count_at p) (before v next)) (digit_at p) _
    (λ _. either_way (eqb (suc m) 0) (count_at p) (before v next) _ (λ _. omega arith) (λ _. rw (in_before v next) (omega (arith, h, ap (λ (k : ℕ). k * (w + 1)) e, suc-mul m (w + 1)))))
    (λ _. omega arith)
within b w n (suc d) p v (x ∷ s) =
    let e : suc d - 1 ≡ d = omega arith in
    let next = lanes_at b w n (suc d - 1) (p + 1) (v * 16 + digit_of x) s in
    let h = within b w n (suc d - 1) (p + 1) (v * 16 + digit_of x) s in
    rw (eqb-suc-zero d) (either_way (ltb (digit_of x) b) next (digit_at p) (p + (n * (w + 1) + suc d)) (λ _. omega (arith, h, e)) (λ _. omega arith))

of_reading : (k : Kind) (r : Scanned) → (reading k r).place ≡ place_in r
unfolding wrong found
of_reading k (digit_at p) = refl
of_reading k (count_at p) = refl
of_reading k (good l) = refl

most : (k : Kind) → (lane_count k - 1) * (digit_count (scalar_of k) + 1) + digit_count (scalar_of k) ≤ 143
most k = leb-true _ 143 (each (λ l. leb ((lane_count l - 1) * (digit_count (scalar_of l) + 1) + digit_count (scalar_of l)) 143) refl k)

lanes_most : (k : Kind) (p : ℕ) (s : List ℕ) → 1 ≤ p → (read_lanes k p s).place ≤ p + 143
unfolding read_lanes wrong
lanes_most k p s h = by (eqb (lane_count k) 0)
  where
    w : ℕ
    w = digit_count (scalar_of k)

    r : Scanned
    r = lanes_at (digit_bound (scalar_of k)) w (lane_count k - 1) w p 0 s

    by : (t : Bool) → (cond t (wrong TypeSpelling 1) (reading k r)).place ≤ p + 143
    by true = omega arith
    by false = rw (of_reading k r) (omega (arith, within (digit_bound (scalar_of k)) w (lane_count k - 1) w p 0 s, most k))

pub place_most : (s : List ℕ) → (read_value s).place ≤ 156
unfolding read_value read_lanes wrong
place_most s = by (ltb (colon_at s) (length s))
  where
    c : ℕ
    c = colon_at s

    k : Kind
    k = kind_of (take c s)

    typed : (kind_of (take c s) ≡ Empty) ⊎ (take c s ≡ spelled (kind_of (take c s))) → (read_lanes k (c + 2) (drop (c + 1) s)).place ≤ 156
    typed (inl e) = rw e (omega arith)
    typed (inr e) = omega (arith, lanes_most k (c + 2) (drop (c + 1) s) (omega arith), at_most_11 k, ap length e, length-take-le c s (place_le 58 s))

    by : (t : Bool) → (cond t (read_lanes k (c + 2) (drop (c + 1) s)) (wrong TypeSpelling 1)).place ≤ 156
    by true = typed (none_or_spelled (take c s))
    by false = omega arith
