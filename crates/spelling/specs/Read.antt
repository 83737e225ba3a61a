-- Reading a value: 01, "Lines": "A value is type, colon, lanes parted by commas, upper-case hex", and the faults of 02, Q-2, of which the leftmost is told. Definitions only.
use Rattle.std.specs.Prelude.{ℕ, ◌+◌, ◌*◌, ◌-◌, cond, List, [], ◌∷◌, ltb, eqb, length, take, drop}
use Rattle.values.specs.Value.{lane_count, scalar_of, value, empty_value}
use Rattle.values.specs.declared.Value.{Value}
use Rattle.values.specs.declared.Kind.{Kind}
use Rattle.spelling.specs.declared.Fault.{Fault}
use Rattle.spelling.specs.declared.Fault.TheVariants.{Nothing, TypeSpelling, Lanes, Digit}
use Rattle.spelling.specs.declared.Reading.{Reading}
use Rattle.buffers.specs.Text.{byte, place_of}
use Rattle.spelling.specs.Types.{kind_of}
use Rattle.spelling.specs.Hex.{digit_count, digit_bound, digit_of}

-- "Refusals: 9 type spelling or colon, 10 lane count, 11 digit"
abbrev pub fault_number : Fault → ℕ
fault_number Nothing = 0
fault_number TypeSpelling = 9
fault_number Lanes = 10
fault_number Digit = 11

-- what reading lanes gives: the place of a wrong digit or count, or the lanes
pub data Scanned : Type 0 where
  digit_at : ℕ → Scanned
  count_at : ℕ → Scanned
  good : List ℕ → Scanned

abbrev pub before : ℕ → Scanned → Scanned
before v (digit_at p) = digit_at p
before v (count_at p) = count_at p
before v (good l) = good (v ∷ l)

-- In all that follows, still due are n lanes after this one and d digits of this one; p is the place, v the number so far.

-- in a lane: "a wrong digit (a bool's above 1) [..] at itself"; a comma ends the lane, so "too few digits in a lane at the byte after that lane"
abbrev pub in_lane : (b p x : ℕ) → Scanned → Scanned
in_lane b p x next = cond (ltb (digit_of x) b) next (digit_at p)

-- after its last digit: "one too many at itself"; "a lane too many at the comma before it"
abbrev pub after_lane : (n p v x : ℕ) → Scanned → Scanned
after_lane n p v x next = cond (eqb x (byte ",")) (cond (eqb n 0) (count_at p) (before v next)) (digit_at p)

-- "too few lanes at the byte after the field"; "11 comes before 10 at one place"
abbrev pub at_end : (n d p v : ℕ) → Scanned
at_end n d p v = cond (eqb d 0) (cond (eqb n 0) (good (v ∷ [])) (count_at p)) (digit_at p)

-- lanes of w digits below b
unfoldable pub lanes_at : (b w n d p v : ℕ) → List ℕ → Scanned
lanes_at b w n d p v [] = at_end n d p v
lanes_at b w n d p v (x ∷ s) =
    cond (eqb d 0) (after_lane n p v x (lanes_at b w (n - 1) w (p + 1) 0 s)) (in_lane b p x (lanes_at b w n (d - 1) (p + 1) (v * 16 + digit_of x) s))

unfoldable pub wrong : Fault → ℕ → Reading
wrong f p = record { fault = f; place = p; value = empty_value }

unfoldable pub found : Value → Reading
found v = record { fault = Nothing; place = 0; value = v }

abbrev pub reading : Kind → Scanned → Reading
reading k (digit_at p) = wrong Digit p
reading k (count_at p) = wrong Lanes p
reading k (good l) = found (value k l)

-- where the first colon stands
abbrev pub colon_at : List ℕ → ℕ
colon_at s = place_of (byte ":") s

-- the lanes of a value of type k, from place p on; "A wrong type spelling [..] stands at its field's first byte"
unfoldable pub read_lanes : Kind → ℕ → List ℕ → Reading
read_lanes k p s =
    cond (eqb (lane_count k) 0) (wrong TypeSpelling 1)
    (reading k (lanes_at (digit_bound (scalar_of k)) (digit_count (scalar_of k)) (lane_count k - 1) (digit_count (scalar_of k)) p 0 s))

-- a value's spelling, places counted from 1 in it; "no colon in a value, stands at its field's first byte"
unfoldable pub read_value : List ℕ → Reading
read_value s =
    cond (ltb (colon_at s) (length s)) (read_lanes (kind_of (take (colon_at s) s)) (colon_at s + 2) (drop (colon_at s + 1) s))
    (wrong TypeSpelling 1)
