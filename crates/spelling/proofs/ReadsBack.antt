-- What is written is read back: `read_value (text_of v)` gives v, for every well-formed v. Digit by digit, then lane by lane; the type is found because no type's spelling has a colon. Assumes nothing.
use Prim.Native.Nat.{ℕ, zero, suc, ◌+◌, ◌*◌, ◌-◌, ◌/◌, ◌%◌, ◌<◌, ◌^◌}
use mathlib.Core.List.{List, [], ◌∷◌, ◌++◌}
use mathlib.Core.Bool.{true}
use mathlib.Core.Path.{◌≡◌, refl, ap, sym, ◌∙◌}
use native.Mathlib.Nat.{div-eq_of_lt, mod-lt, add-zero, div-le_self, mod-le}
use native.Mathlib.Omega.{arith}
use lib.ListN.{length, length-append}
use lib.Seq.{take-append_seam, drop-append-add, length-take-le}
use lib.Dec.{ltb, eqb-suc-zero}
use borrow.Author.Tests.{lt-ltb, ltb-true}
use Rattle.values.specs.Value.{lane_bits, lane_count, scalar_of, lanes_of, value, every, well_formed}
use Rattle.values.specs.declared.Value.{Value}
use Rattle.values.specs.declared.Scalar.{Scalar}
use Rattle.values.specs.declared.Scalar.TheVariants.{Boolean, I32, U32, F32, F16}
use Rattle.values.specs.declared.Kind.{Kind}
use Rattle.buffers.specs.Text.{byte}
use Rattle.spelling.specs.Types.{spelled, kind_of}
use Rattle.values.proofs.Bools.{both}
use Rattle.values.proofs.Places.{each, lanes_at_most_16, typed}
use Rattle.values.proofs.Formed.{is_type_lem, used_below, whole}
use Rattle.spelling.proofs.Spellings.{kind_spelled}
use Rattle.spelling.specs.Hex.{digit_count, digit_bound, digit_of, hex_byte, hex_bytes}
use Rattle.spelling.specs.Read.{good, before, lanes_at, found, reading, colon_at, read_lanes, read_value}
use Rattle.spelling.specs.Write.{lanes_text, text_of}
use Rattle.buffers.proofs.FirstPlace.{without, place_after}
use Rattle.spelling.proofs.Hexes.{digit_byte, no_digits, hex_front, hex_none, digit_more}

-- a lane that w digits below b spell
pub record Fit (b w x : ℕ) : Type 0 where
  pub small : x < 16 ^ w
  pub digits : (j : ℕ) → x / 16 ^ j % 16 < b

-- a right digit
pub digit_step : (b w n d p u c q : ℕ) (t : List ℕ) → digit_of c ≡ q → q < b → lanes_at b w n (suc d) p u (c ∷ t) ≡ lanes_at b w n d (p + 1) (u * 16 + q) t
unfolding lanes_at
digit_step b w n d p u c q t e h =
    let z : suc d - 1 ≡ d = omega arith in
    rw (eqb-suc-zero d, e, lt-ltb q b h, z)

-- the digits of a lane are read
digits_back : (b w n d p v : ℕ) (r : List ℕ) → ((j : ℕ) → v / 16 ^ j % 16 < b)
    → lanes_at b w n d p (v / 16 ^ d) (hex_bytes d v ++ r) ≡ lanes_at b w n 0 (p + d) v r
digits_back b w n zero p v r h = rw (no_digits v, add-zero, hex_none v)
digits_back b w n (suc d) p v r h =
    let q = v / 16 ^ d % 16 in
    let s : p + 1 + d ≡ p + suc d = omega arith in
    rw (hex_front d v)
    (digit_step b w n d p (v / 16 ^ suc d) (hex_byte q) q (hex_bytes d v ++ r) (digit_byte q (mod-lt (v / 16 ^ d) (omega arith))) (h d)
    ∙ rw (digit_more d v, ← s) (digits_back b w n d (p + 1) v r h))

-- a lane is read, and what comes after it
lane_back : (b w n p x : ℕ) (r : List ℕ) → Fit b w x → lanes_at b w n w p 0 (hex_bytes w x ++ r) ≡ lanes_at b w n 0 (p + w) x r
lane_back b w n p x r f = rw (div-eq_of_lt f.small) at (digits_back b w n w p x r f.digits)

last_back : (b w p v : ℕ) → lanes_at b w 0 0 p v [] ≡ good (v ∷ [])
unfolding lanes_at
last_back b w p v = refl

comma_back : (b w n p v : ℕ) (t : List ℕ) → lanes_at b w (suc n) 0 p v (44 ∷ t) ≡ before v (lanes_at b w n w (p + 1) 0 t)
unfolding lanes_at
comma_back b w n p v t =
    let z : suc n - 1 ≡ n = omega arith in
    rw (eqb-suc-zero n, z)

-- lanes that fit, each of a list
pub data Fits (b w : ℕ) : List ℕ → Type 0 where
  none : Fits b w []
  more : {x : ℕ} {xs : List ℕ} → Fit b w x → Fits b w xs → Fits b w (x ∷ xs)

lanes_back : (b w p x : ℕ) (xs : List ℕ) → Fits b w (x ∷ xs)
    → lanes_at b w (length xs) w p 0 (hex_bytes w x ++ lanes_text 44 w xs) ≡ good (x ∷ xs)
unfolding lanes_text
lanes_back b w p x [] (more f fs) = lane_back b w 0 p x [] f ∙ last_back b w (p + w) x
lanes_back b w p x (y ∷ ys) (more f fs) =
    lane_back b w (suc (length ys)) p x (44 ∷ (hex_bytes w y ++ lanes_text 44 w ys)) f
    ∙ comma_back b w (length ys) (p + w) x (hex_bytes w y ++ lanes_text 44 w ys)
    ∙ ap (before x) (lanes_back b w (p + w + 1) y ys fs)

-- lanes below their bound fit
fit : (s : Scalar) (x : ℕ) → x < 2 ^ lane_bits s → Fit (digit_bound s) (digit_count s) x
fit Boolean x h = record { small = omega arith; digits = λ j. omega (arith, div-le_self x (16 ^ j), mod-le (x / 16 ^ j) 16) }
fit I32 x h = record { small = omega arith; digits = λ j. mod-lt (x / 16 ^ j) (omega arith) }
fit U32 x h = record { small = omega arith; digits = λ j. mod-lt (x / 16 ^ j) (omega arith) }
fit F32 x h = record { small = omega arith; digits = λ j. mod-lt (x / 16 ^ j) (omega arith) }
fit F16 x h = record { small = omega arith; digits = λ j. mod-lt (x / 16 ^ j) (omega arith) }

pub fits : (s : Scalar) (l : List ℕ) → every (λ x. ltb x (2 ^ lane_bits s)) l ≡ true → Fits (digit_bound s) (digit_count s) l
fits s [] e = none
fits s (x ∷ xs) e =
    let h = both (ltb x (2 ^ lane_bits s)) (every (λ y. ltb y (2 ^ lane_bits s)) xs) e in
    more (fit s x (ltb-true x (2 ^ lane_bits s) h.0)) (fits s xs h.1)

-- a field cut at its colon
cut_back : (a r : List ℕ) → colon_at (a ++ (58 ∷ r)) ≡ length a → read_value (a ++ (58 ∷ r)) ≡ read_lanes (kind_of a) (length a + 2) r
unfolding read_value
cut_back a r e =
    let h : length a < length (a ++ (58 ∷ r)) = rw length-append (omega arith) in
    rw (e, lt-ltb (length a) (length (a ++ (58 ∷ r))) h, take-append_seam a (58 ∷ r), drop-append-add a (58 ∷ r) 1)

kind_back : (k : Kind) (p x : ℕ) (xs : List ℕ) → suc (length xs) ≡ lane_count k → Fits (digit_bound (scalar_of k)) (digit_count (scalar_of k)) (x ∷ xs)
    → read_lanes k p (hex_bytes (digit_count (scalar_of k)) x ++ lanes_text 44 (digit_count (scalar_of k)) xs) ≡ found (value k (x ∷ xs))
unfolding read_lanes
kind_back k p x xs e f =
    let z : suc (length xs) - 1 ≡ length xs = omega arith in
    rw (← e, eqb-suc-zero (length xs), z) (ap (reading k) (lanes_back (digit_bound (scalar_of k)) (digit_count (scalar_of k)) p x xs f))

-- no type's spelling has a colon
colon_spelled : (k : Kind) (r : List ℕ) → colon_at (spelled k ++ (58 ∷ r)) ≡ length (spelled k)
colon_spelled k r = place_after (byte ":") (spelled k) r (each (λ l. without (byte ":") (spelled l)) refl k)

-- so a type is read, and what comes after its colon
pub type_back : (k : Kind) (r : List ℕ) → read_value (spelled k ++ (58 ∷ r)) ≡ read_lanes k (length (spelled k) + 2) r
type_back k r = cut_back (spelled k) r (colon_spelled k r) ∙ rw (kind_spelled k)

lanes_given : (k : Kind) (l : List ℕ) → 0 < lane_count k → length l ≡ lane_count k → Fits (digit_bound (scalar_of k)) (digit_count (scalar_of k)) l
    → read_value (spelled k ++ lanes_text 58 (digit_count (scalar_of k)) l) ≡ found (value k l)
unfolding lanes_text
lanes_given k [] h e f = absurd (omega arith)
lanes_given k (x ∷ xs) h e f =
    type_back k (hex_bytes (digit_count (scalar_of k)) x ++ lanes_text 44 (digit_count (scalar_of k)) xs) ∙ kind_back k (length (spelled k) + 2) x xs e f

-- what is written is read back
pub read_back : (v : Value) → length v.lanes ≡ 16 → well_formed v ≡ true → read_value (text_of v) ≡ found v
unfolding text_of
read_back v e w =
    let small = lanes_at_most_16 v.kind in
    lanes_given v.kind (lanes_of v) (ltb-true 0 (lane_count v.kind) (sym (typed v.kind) ∙ is_type_lem v w)) (length-take-le (lane_count v.kind) v.lanes (omega arith))
    (fits (scalar_of v.kind) (lanes_of v) (used_below v w))
    ∙ ap found (whole v w e)
