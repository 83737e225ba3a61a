-- A digit and its byte determine each other, and a number its digits: by the four ranges of bytes, and by dividing. Assumes nothing.
use Prim.Native.Nat.{ℕ, zero, suc, ◌+◌, ◌*◌, ◌-◌, ◌/◌, ◌%◌, ◌<◌, ◌^◌}
use mathlib.Core.List.{[], ◌∷◌}
use mathlib.Core.Bool.{Bool, true, false, cond}
use mathlib.Core.Path.{◌≡◌, refl, ◌∙◌}
use native.Mathlib.Nat.{mul-add-mod_self_right, mod-eq_of_lt, mul-add-div_right, div-eq_of_lt, add-zero, pow-suc, pow-succ', div-div-eq-div-mul, div-add-mod', div-one, pow-zero, pow-le-pow_right}
use native.Mathlib.Omega.{arith}
use lib.Dec.{ltb, leb}
use borrow.Author.Tests.{lt-ltb, le-ltb, ltb-true, ltb-false, le-leb, lt-leb, leb-true}
use Rattle.spelling.specs.Hex.{digit_of, hex_byte, hex_bytes}

-- the digit of a digit's byte
by_ten : (d : ℕ) (t : Bool) → ltb d 10 ≡ t → d < 16 → digit_of (cond t (48 + d) (65 + (d - 10))) ≡ d
by_ten d true e h =
    let k = ltb-true d 10 e in
    rw (le-ltb (48 + d) 48 (omega arith), le-leb (48 + d) 57 (omega arith)) (omega arith)
by_ten d false e h =
    let k = ltb-false d 10 e in
    let x = 65 + (d - 10) in
    rw (le-ltb x 48 (omega arith), lt-leb x 57 (omega arith), le-ltb x 65 (omega arith), le-leb x 70 (omega arith)) (omega arith)

pub digit_byte : (d : ℕ) → d < 16 → digit_of (hex_byte d) ≡ d
digit_byte d h = by_ten d (ltb d 10) refl h

-- the highest digit comes first
pub hex_front : (d v : ℕ) → hex_bytes (suc d) v ≡ hex_byte (v / 16 ^ d % 16) ∷ hex_bytes d v
unfolding hex_bytes
hex_front zero v = rw (pow-zero, div-one)
hex_front (suc d) v = rw (hex_front d (v / 16), div-div-eq-div-mul, pow-succ')

-- a digit more
pub digit_more : (d v : ℕ) → v / 16 ^ suc d * 16 + v / 16 ^ d % 16 ≡ v / 16 ^ d
digit_more d v = rw (pow-suc, ← div-div-eq-div-mul v (16 ^ d) 16) (div-add-mod' (v / 16 ^ d) 16)

-- no digit
pub no_digits : (v : ℕ) → v / 16 ^ 0 ≡ v
no_digits v = rw (pow-zero, div-one)

pub hex_none : (v : ℕ) → hex_bytes 0 v ≡ []
unfolding hex_bytes
hex_none v = refl

-- the byte of a byte's digit
by_ranges : (c : ℕ) (s t u v : Bool) → ltb c 48 ≡ s → leb c 57 ≡ t → ltb c 65 ≡ u → leb c 70 ≡ v
    → cond s 16 (cond t (c - 48) (cond u 16 (cond v (c - 65 + 10) 16))) < 16
    → hex_byte (cond s 16 (cond t (c - 48) (cond u 16 (cond v (c - 65 + 10) 16)))) ≡ c
by_ranges c true t u v es et eu ev h = absurd (omega arith)
by_ranges c false true u v es et eu ev h =
    let a = ltb-false c 48 es in
    let b = leb-true c 57 et in
    rw (lt-ltb (c - 48) 10 (omega arith)) (omega arith)
by_ranges c false false true v es et eu ev h = absurd (omega arith)
by_ranges c false false false true es et eu ev h =
    let a = ltb-false c 65 eu in
    let b = leb-true c 70 ev in
    rw (le-ltb (c - 65 + 10) 10 (omega arith)) (omega arith)
by_ranges c false false false false es et eu ev h = absurd (omega arith)

pub byte_digit : (c : ℕ) → digit_of c < 16 → hex_byte (digit_of c) ≡ c
byte_digit c h = by_ranges c (ltb c 48) (leb c 57) (ltb c 65) (leb c 70) refl refl refl refl h

-- a number with a digit more, taken apart
pub digit_low : (v q : ℕ) → q < 16 → (v * 16 + q) % 16 ≡ q
digit_low v q h = mul-add-mod_self_right v 16 q ∙ mod-eq_of_lt h

pub digit_high : (v q : ℕ) → q < 16 → (v * 16 + q) / 16 ≡ v
digit_high v q h = rw (mul-add-div_right {m = 16} (omega arith) v q, div-eq_of_lt h, add-zero)

pub div_suc : (d x : ℕ) → x / 16 ^ suc d ≡ x / 16 ^ d / 16
div_suc d x = rw (pow-suc, ← div-div-eq-div-mul x (16 ^ d) 16)

pub one_at_least : (i : ℕ) → 0 < 16 ^ i
one_at_least i = pow-le-pow_right {n = 16} (omega arith) {i = 0} {j = i} (omega arith)
