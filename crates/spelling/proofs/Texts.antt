-- How long a value's text is: by its parts, a byte and the digits for each lane after the type. Assumes nothing.
use Prim.Native.Nat.{ℕ, zero, suc, ◌+◌, ◌*◌, ◌/◌, ◌≤◌}
use mathlib.Core.List.{List, [], ◌∷◌, ◌++◌}
use mathlib.Core.Path.{◌≡◌, refl, ap, sym, ◌∙◌}
use native.Mathlib.Nat.{zero-mul, suc-mul, mul-le-mul}
use native.Mathlib.Omega.{arith}
use lib.ListN.{length, take, length-append, length-take}
use lib.Seq.{length-take-le}
use Rattle.values.specs.Value.{lane_count, scalar_of, lanes_of}
use Rattle.values.specs.declared.Value.{Value}
use Rattle.values.specs.declared.Scalar.{Scalar}
use Rattle.values.specs.declared.Scalar.TheVariants.{Boolean, I32, U32, F32, F16}
use Rattle.values.proofs.Places.{lanes_at_most_16}
use Rattle.spelling.specs.Types.{spelled}
use Rattle.spelling.specs.Hex.{digit_count, hex_bytes}
use Rattle.spelling.specs.Write.{lanes_text, text_of, text_length}
use Rattle.spelling.proofs.Spellings.{at_most_11}

pub length_hex : (n v : ℕ) → length (hex_bytes n v) ≡ n
unfolding hex_bytes
length_hex zero v = refl
length_hex (suc n) v = length-append (hex_bytes n (v / 16)) _ ∙ omega (arith, length_hex n (v / 16))

length_lanes : (b w : ℕ) (l : List ℕ) → length (lanes_text b w l) ≡ length l * (w + 1)
unfolding lanes_text
length_lanes b w [] = sym (zero-mul (w + 1))
length_lanes b w (v ∷ vs) = rw (length-append, length_hex, length_lanes 44 w vs, suc-mul) (omega arith)

-- a value's spelling by its parts, as the code has them
module _ (v : Value) {n w : ℕ} {s : Scalar} (en : n ≡ lane_count v.kind) (es : s ≡ scalar_of v.kind) (ew : w ≡ digit_count s) where
  pub text_parts : text_of v ≡ spelled v.kind ++ lanes_text 58 w (take n v.lanes)
  unfolding text_of
  text_parts = rw (ew, es, en)

  pub text_length_lem : length (text_of v) ≡ length (spelled v.kind) + length (lanes_text 58 w (take n v.lanes))
  text_length_lem = ap length text_parts ∙ length-append (spelled v.kind) (lanes_text 58 w (take n v.lanes))

-- by its type alone
text_by_type : (v : Value) → lane_count v.kind ≤ length v.lanes → length (text_of v) ≡ text_length v.kind
unfolding text_length
text_by_type v h =
    text_length_lem v refl refl refl
    ∙ rw (length_lanes 58 (digit_count (scalar_of v.kind)) (lanes_of v), length-take-le (lane_count v.kind) v.lanes h)

-- a value in hand has 16 lanes, as many as any type asks for
pub text_16 : (v : Value) → length v.lanes ≡ 16 → length (text_of v) ≡ text_length v.kind
text_16 v e = text_by_type v (omega (arith, lanes_at_most_16 v.kind))

pub at_most_8 : (s : Scalar) → digit_count s ≤ 8
at_most_8 Boolean = omega arith
at_most_8 I32 = omega arith
at_most_8 U32 = omega arith
at_most_8 F32 = omega arith
at_most_8 F16 = omega arith

-- whatever the value
pub at_most_155 : (v : Value) → length (text_of v) ≤ 155
at_most_155 v =
    let w = digit_count (scalar_of v.kind) in
    let n : length (lanes_of v) ≤ 16 = omega (arith, length-take (lane_count v.kind) v.lanes, lanes_at_most_16 v.kind) in
    let d : w + 1 ≤ 9 = omega (arith, at_most_8 (scalar_of v.kind)) in
    omega (arith, text_length_lem v refl refl refl, length_lanes 58 w (lanes_of v), mul-le-mul n d, at_most_11 v.kind)
