-- floor, ceil, trunc and round give what they are held to, for every finite number of a format. A whole number that is not past n by 1 is at most n, and
-- every other whole number is at least 1 from n. Assumes nothing.
use mathlib.Core.Path.{◌≡◌, ap, ◌∙◌}
use mathlib.Core.Logic.{◌⊎◌, inl, inr}
use Prim.Native.Nat.{ℕ, suc, ◌+◌, ◌-◌, ◌*◌, ◌%◌, ◌≤◌, ◌<◌}
use native.Mathlib.Nat.{mul-le-mul_right, lt_of_mul-lt-mul_right, mul-mod_left, mul-div_cancel, add-zero, zero-add, add_comm}
use native.Mathlib.Omega.{arith}
use mathlib.Core.Bool.{Bool, true, false}
use lib.Pow.{pow_pos}
use Rattle.half.specs.Format.{Format, lowest}
use Rattle.half.specs.Nearest.{apart}
use Rattle.half.proofs.Closest.{split}
use Rattle.rounding.specs.Rounding.{one}
use Rattle.rounding.specs.Neighbours.{Number, whole_number, IsWhole, left, AtMost, distance, IsFloor, IsCeil, IsTrunc, IsRound}

not_past : (c k n : ℕ) → k * c < n * c + c → k * c ≤ n * c
not_past c k n h =
    let l : k < suc n = lt_of_mul-lt-mul_right c (omega arith) in
    mul-le-mul_right {m = k} {n = n} c (omega arith)

-- a whole number that is not past another by 1 is at most that
at_most : (f : Format) (s t : Bool) (k n : ℕ) → left (whole_number f s k) (whole_number f t n) < left (whole_number f t n) (whole_number f s k) + one f → AtMost (whole_number f s k) (whole_number f t n)
at_most f false false k n h = omega (arith, not_past (one f) k n (omega arith))
at_most f false true k n h = omega (arith, not_past (one f) (k + n) 0 (omega arith))
at_most f true false k n h = omega arith
at_most f true true k n h = omega (arith, not_past (one f) n k (omega arith))

module _ (f : Format) (x : Number) (t : Bool) (n : ℕ) where
  abbrev r : Number
  r = whole_number f t n

  pub is_whole_lem : IsWhole f r
  is_whole_lem = mul-mod_left n (one f)

  pub floor_at : AtMost r x → left x r < left r x + one f → IsFloor f x r
  floor_at b l = record { whole = is_whole_lem; below = b; last = λ (s : Bool) (k : ℕ) (h : AtMost (whole_number f s k) x). at_most f s t k n (omega arith) }

  pub ceil_at : AtMost x r → left r x < left x r + one f → IsCeil f x r
  ceil_at b l = record { whole = is_whole_lem; above = b; first = λ (s : Bool) (k : ℕ) (h : AtMost x (whole_number f s k)). at_most f t s n k (omega arith) }

  pub trunc_at : t ≡ x.sign → (n * one f ≤ x.size) × (x.size < n * one f + one f) → IsTrunc f x r
  trunc_at e i = record { whole = is_whole_lem; sign = e; inside = i.0; last = λ (k : ℕ) (h : k * one f ≤ x.size). not_past (one f) k n (omega arith) }

  apart_by_one : (s : Bool) (k : ℕ) → (distance r (whole_number f s k) ≡ 0) ⊎ (one f ≤ distance r (whole_number f s k))
  apart_by_one s k =
      let y = whole_number f s k in
      elim (split (left r y) (left y r)) [
        | inl l ↦ elim (split (left y r) (left r y + one f)) [ inl g ↦ absurd (omega (arith, at_most f s t k n g)) | inr g ↦ inr (omega arith) ]
        | inr i ↦ elim (split (left r y) (left y r + one f)) [ inl g ↦ inl (omega (arith, at_most f t s n k g)) | inr g ↦ inr (omega arith) ]
      ]

  -- where another is as near, both are half of 1 away
  pub round_at : (distance x r * 2 ≤ one f) × (distance x r * 2 ≡ one f → n % 2 ≡ 0) → IsRound f x r
  round_at m = record {
    whole = is_whole_lem;
    near = λ (s : Bool) (k : ℕ). elim (apart_by_one s k) [ inl z ↦ omega arith | inr g ↦ omega arith ];
    even = λ (s : Bool) (k : ℕ) (e : distance x (whole_number f s k) ≡ distance x r).
        elim (apart_by_one s k) [ inl z ↦ inl z | inr g ↦ inr (ap (λ (i : ℕ). i % 2) (mul-div_cancel n (pow_pos (lowest f))) ∙ m.1 (omega arith)) ];
  }

pub beside : (s : Bool) (a u : ℕ) → distance (record { sign = s; size = a }) (record { sign = s; size = u }) ≡ apart a u
beside false a u = rw (add-zero a, add-zero u)
beside true a u = rw (zero-add a, zero-add u) (add_comm (u - a) (a - u))
