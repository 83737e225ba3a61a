-- The lanes of the norm formats: 01, from "Unorm packing" to "snorm results below -1 become -1". Definitions only.
-- They are over (signed, w): false is unorm and true is snorm, of w bits.
use Rattle.std.specs.Prelude.{ℕ, zero, suc, ◌+◌, ◌-◌, ◌*◌, ◌/◌, ◌^◌, min, Bool, true, false, cond, ltb, eqb, ℤ, pos, negsuc, Float}
use Rattle.std.specs.Float.{nan, inf, fin, binary32}
use Rattle.std.specs.Float.Ieee.{up, down, add, mul, div, lt, of_int, of_bits, to_bits}

-- "255 or 65535", "127 or 32767"
abbrev pub scale : Bool → ℕ → ℕ
scale false w = 2 ^ w - 1
scale true w = 2 ^ (w - 1) - 1

abbrev pub one : Float
one = fin false 1 (pos 0)

abbrev pub half : Float
half = fin false 1 (negsuc 0)

-- "[0, 1]", "[-1, 1]"
abbrev pub least : Bool → Float
least false = fin false 0 (pos 0)
least true = fin true 1 (pos 0)

-- a NaN stays
abbrev pub clamped : Bool → Float → Float
clamped g x = cond (lt x (least g)) (least g) (cond (lt one x) one x)

-- "clamp to [0, 1], multiply by 255 or 65535, add to 0.5, .. each step in f32"
unfoldable pub stepped : Bool → ℕ → Float → Float
stepped g w x = add binary32 half (mul binary32 (of_int binary32 (pos (scale g w))) (clamped g x))

-- "the code as two's complement": -n, of w bits
abbrev pub minus : ℕ → ℕ → ℕ
minus w zero = 0
minus w (suc n) = 2 ^ w - suc n

-- the least code is minus this
abbrev pub depth : Bool → ℕ → ℕ
depth false w = 0
depth true w = 2 ^ (w - 1)

-- "round down", kept among the codes as Rust's `as` does; "NaN gives code 0". Below 0 that is the size rounded up.
unfoldable pub floor_code : Bool → ℕ → Float → ℕ
floor_code g w nan = 0
floor_code g w (inf s) = cond s (minus w (depth g w)) (scale g w)
floor_code g w (fin s m e) = cond s (minus w (min ((m * up e + (down e - 1)) / down e) (depth g w))) (min (m * up e / down e) (scale g w))

unfoldable pub packed_norm : Bool → ℕ → ℕ → ℕ
packed_norm g w x = floor_code g w (stepped g w (of_bits binary32 x))

-- the number that a code stands for
abbrev pub number : Bool → ℕ → ℕ → ℤ
number false w c = pos c
number true w c = cond (ltb c (2 ^ (w - 1))) (pos c) (negsuc (2 ^ w - suc c))

-- "Unpacking divides the code by the same number in f32; snorm results below -1 become -1." No unorm result is below 0.
unfoldable pub unpacked_norm : Bool → ℕ → ℕ → ℕ
unpacked_norm g w c =
    let q = div binary32 (of_int binary32 (number g w c)) (of_int binary32 (pos (scale g w))) in
    to_bits binary32 (cond (lt q (least g)) (least g) q)

-- "unorm .. words are their own. In snorm words each lane 80 (8000) becomes 81 (8001)."
abbrev pub normal_code : Bool → ℕ → ℕ → ℕ
normal_code false w c = c
normal_code true w c = cond (eqb c (2 ^ (w - 1))) (suc c) c
