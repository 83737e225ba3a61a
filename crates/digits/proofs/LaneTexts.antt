-- Lanes read one after another. Each turn is one step of `lanes_from`. Sound: lanes that are all found are what the definition reads, each one step of it. Complete: lanes that are
-- spelled are all found. Assumes nothing.
use Prim.Native.Nat.{ℕ, zero, suc, ◌+◌, ◌*◌, ◌-◌, ◌≤◌, ◌<◌, ◌^◌}
use mathlib.Core.Bool.{Bool, true, false, cond}
use mathlib.Core.List.{List, [], ◌∷◌, ◌++◌, append_assoc}
use mathlib.Core.Path.{◌≡◌, refl, ap, sym, ◌∙◌}
use native.Mathlib.Nat.{suc-mul, add-zero, div-eq_of_lt, pow-le-pow_right}
use native.Mathlib.Numerals.{add-one}
use native.Mathlib.Omega.{arith}
use borrow.Author.Tests.{eq-eqb, eqb-true, lt-ltb, ltb-true, le-ltb}
use lib.Dec.{eqb, ltb}
use lib.ListN.{length, take, drop, get_or}
use lib.Seq.{take_at, drop_at, drop-drop, get_or-drop}
use Rattle.spelling.specs.Hex.{digits_below, number, hex_bytes}
use Rattle.spelling.specs.Read.{good, before, lanes_at}
use Rattle.spelling.specs.Write.{lanes_text}
use Rattle.spelling.proofs.ReadsBack.{Fit, Fits, none, more}
use Rattle.spelling.proofs.Texts.{length_hex}
use Rattle.digits.specs.Program.{lane_from, lane_after, lanes_from}
use Rattle.digits.proofs.Numbers.{hex_below, hex_number}
use Rattle.spelling.proofs.Scan.{lane_next, digits_next, lanes_end}

-- ---- turns

-- n lanes of which k are behind, of w digits below b
module _ (b w before n k : ℕ) (t : List ℕ) (i : ℕ) (h : k < n) where
  one_more : n - k ≡ suc (n - (k + 1))
  one_more = omega arith

  pub lane_right : {x : ℕ} → x ≡ lane_after b w before t i → x < 2 ^ 32 → lanes_from b w before (n - k) t i ≡ x ∷ lanes_from b w 44 (n - (k + 1)) t (i + (w + 1))
  unfolding lanes_from
  lane_right {x} e g = rw (one_more, ← e, lt-ltb x (2 ^ 32) g)

  pub lane_wrong : {x : ℕ} → x ≡ lane_after b w before t i → 2 ^ 32 ≤ x → lanes_from b w before (n - k) t i ≡ []
  unfolding lanes_from
  lane_wrong {x} e g = rw (one_more, ← e, le-ltb x (2 ^ 32) g)

  pub lane_within : (n - k) * (w + 1) ≡ w + 1 + (n - (k + 1)) * (w + 1)
  lane_within = rw (one_more, suc-mul (n - (k + 1)) (w + 1)) (omega arith)

pub lanes_none : (b w before n : ℕ) (t : List ℕ) (i : ℕ) → lanes_from b w before (n - n) t i ≡ []
unfolding lanes_from
lanes_none b w before n t i = let z : n - n ≡ 0 = omega arith in rw z

-- no more than are asked for
pub from_most : (b w before n : ℕ) (t : List ℕ) (i : ℕ) → length (lanes_from b w before n t i) ≤ n
unfolding lanes_from
from_most b w before zero t i = omega arith
from_most b w before (suc n) t i = by (ltb (lane_after b w before t i) (2 ^ 32)) (from_most b w 44 n t (i + (w + 1)))
  where
    by : (on : Bool) → length (lanes_from b w 44 n t (i + (w + 1))) ≤ n → length (cond on (lane_after b w before t i ∷ lanes_from b w 44 n t (i + (w + 1))) []) ≤ suc n
    by true h = omega arith
    by false h = omega arith

-- ---- found

-- what is below 2^32 was read
taken : (on : Bool) (x : ℕ) → cond on x (2 ^ 32) < 2 ^ 32 → on ≡ true
taken true x h = refl
taken false x h = absurd (omega arith)

-- as many lanes as are asked for are read one by one
first_of : (x : ℕ) (l : List ℕ) (n : ℕ) (on : Bool) → ltb x (2 ^ 32) ≡ on → length (cond on (x ∷ l) []) ≡ suc n → (x < 2 ^ 32) × (length l ≡ n)
first_of x l n true e h = (ltb-true x (2 ^ 32) e, omega arith)
first_of x l n false e h = absurd (omega arith)

module _ (b w p : ℕ) (s : List ℕ) where
  -- the digits of a lane are eaten
  digits : (n i : ℕ) → i + w ≤ length s → lane_from b w s i < 2 ^ 32
      → lanes_at b w n w (p + i) 0 (drop i s) ≡ lanes_at b w n 0 (p + (i + w)) (lane_from b w s i) (drop (i + w) s)
  digits n i h g =
      let t = taken (digits_below b (take w (drop i s))) (number 0 (take w (drop i s))) g in
      rw t (digits_next b w n p s i w h t)

  module _ (before i n : ℕ) (room : length s ≡ i + suc n * (w + 1)) (all : length (lanes_from b w before (suc n) s i) ≡ suc n) where
    found : (lane_after b w before s i < 2 ^ 32) × (length (lanes_from b w 44 n s (i + (w + 1))) ≡ n)
    unfolding lanes_from
    found = first_of (lane_after b w before s i) (lanes_from b w 44 n s (i + (w + 1))) n (ltb (lane_after b w before s i) (2 ^ 32)) refl all

    stands : get_or s i 0 ≡ before
    stands = eqb-true _ _ (taken (eqb (get_or s i 0) before) (lane_from b w s (i + 1)) found.0)

    lane_is : lane_after b w before s i ≡ lane_from b w s (i + 1)
    lane_is = rw (eq-eqb _ _ stands)

    parts : lanes_from b w before (suc n) s i ≡ lane_from b w s (i + 1) ∷ lanes_from b w 44 n s (i + (w + 1))
    unfolding lanes_from
    parts = rw (lt-ltb _ _ found.0, lane_is)

    -- the lane and those that follow it
    row : lanes_at b w n 0 (p + (i + (w + 1))) (lane_from b w s (i + 1)) (drop (i + (w + 1)) s) ≡ good (lane_from b w s (i + 1) ∷ lanes_from b w 44 n s (i + (w + 1)))
        → lanes_at b w n w (p + (i + 1)) 0 (drop (i + 1) s) ≡ good (lanes_from b w before (suc n) s i)
    row others =
        let j : i + 1 + w ≡ i + (w + 1) = omega arith in
        let within : i + 1 + w ≤ length s = omega (arith, suc-mul n (w + 1)) in
        rw parts (rw j at (digits n (i + 1) within (rw (← lane_is) found.0)) ∙ others)

    left : length s ≡ i + (w + 1) + n * (w + 1)
    left = omega (arith, suc-mul n (w + 1))

    inside : i < length s
    inside = omega (arith, suc-mul n (w + 1))

  -- after a lane come the others, up to the end
  others : (n i v : ℕ) → length s ≡ i + n * (w + 1) → length (lanes_from b w 44 n s i) ≡ n → lanes_at b w n 0 (p + i) v (drop i s) ≡ good (v ∷ lanes_from b w 44 n s i)
  unfolding lanes_from
  others zero i v room all = lanes_end b w 0 0 p v s i (omega arith)
  others (suc n) i v room all =
      let z : suc n - 1 ≡ n = omega arith in
      lane_next b w (suc n) 0 p v s i (inside 44 i n room all) refl (stands 44 i n room all) (λ k. omega arith)
      ∙ rw z (ap (before v) (row 44 i n room all (others n (i + (w + 1)) (lane_from b w s (i + 1)) (left 44 i n room all) (found 44 i n room all).1)))

  -- the first lane stands behind a colon
  pub lanes_read : (n i : ℕ) → 0 < n → length s ≡ i + n * (w + 1) → length (lanes_from b w 58 n s i) ≡ n
      → (get_or s i 0 ≡ 58) × (i < length s) × (lanes_at b w (n - 1) w (p + (i + 1)) 0 (drop (i + 1) s) ≡ good (lanes_from b w 58 n s i))
  lanes_read zero i some room all = absurd (omega arith)
  lanes_read (suc n) i some room all =
      let z : suc n - 1 ≡ n = omega arith in (
        stands 58 i n room all,
        inside 58 i n room all,
        rw z (row 58 i n room all (others n (i + (w + 1)) (lane_from b w s (i + 1)) (left 58 i n room all) (found 58 i n room all).1)),
      )

-- ---- spelled

module _ (b w : ℕ) (few : w ≤ 8) (t : List ℕ) where
  lane_there : (before x i : ℕ) (r : List ℕ) → Fit b w x → drop i t ≡ before ∷ (hex_bytes w x ++ r) → lane_after b w before t i ≡ x
  lane_there before x i r f e =
      let first : get_or t i 0 ≡ before = rw (get_or-drop i t 0 0, add-zero) at (ap (λ (l : List ℕ). get_or l 0 0) e) in
      let rest : drop (i + 1) t ≡ hex_bytes w x ++ r = sym (drop-drop 1 i t) ∙ ap (drop 1) e in
      let digits : take w (drop (i + 1) t) ≡ hex_bytes w x = rw rest (take_at (hex_bytes w x) r w (length_hex w x)) in
      rw (eq-eqb (get_or t i 0) before first, digits, hex_below b w x f.digits) (rw (div-eq_of_lt f.small) at (hex_number w x))

  pub lanes_there : (before i : ℕ) (l r : List ℕ) → Fits b w l → drop i t ≡ lanes_text before w l ++ r → lanes_from b w before (length l) t i ≡ l
  unfolding lanes_from lanes_text
  lanes_there before i [] r none e = refl
  lanes_there before i (x ∷ xs) r (more f fs) e =
      let split : drop i t ≡ before ∷ (hex_bytes w x ++ (lanes_text 44 w xs ++ r)) = e ∙ ap (◌∷◌ before) (append_assoc (hex_bytes w x) (lanes_text 44 w xs) r) in
      let is = lane_there before x i (lanes_text 44 w xs ++ r) f split in
      let small : x < 2 ^ 32 = omega (arith, f.small, pow-le-pow_right {n = 16} (omega arith) {i = w} {j = 8} few) in
      let behind : drop (i + (w + 1)) t ≡ lanes_text 44 w xs ++ r
      = sym (drop-drop (w + 1) i t) ∙ rw (split, add-one) (drop_at (hex_bytes w x) (lanes_text 44 w xs ++ r) w (length_hex w x)) in
      rw (is, lt-ltb x (2 ^ 32) small) (ap (◌∷◌ x) (lanes_there 44 (i + (w + 1)) xs r fs behind))
