-- The bit patterns of IEEE 754's binary formats as whole numbers. A format is its two fields' widths; all else follows from them. Definitions only.
-- A magnitude is a pattern with its sign taken off, and its size is counted in units of the format's least value above 0, which is 2 ^ -lowest.
use Rattle.std.specs.Prelude.{ℕ, zero, suc, ◌+◌, ◌-◌, ◌*◌, ◌/◌, ◌%◌, ◌^◌, min, Bool, cond, leb, ltb}
use Rattle.std.specs.Float.Ieee.{size}
use Rattle.std.specs.Float.Ieee.Nearest.{closest}

-- the bits of the exponent's field, and of the digits below the leading one
pub record Format : Type 0 where
  pub exponent : ℕ
  pub fraction : ℕ

abbrev pub f16 : Format
f16 = record { exponent = 5; fraction = 10 }

abbrev pub f32 : Format
f32 = record { exponent = 8; fraction = 23 }

-- ---- the places of a pattern

-- the weight of the exponent's field, which is the leading digit that a pattern leaves out
abbrev pub hidden : Format → ℕ
hidden f = 2 ^ f.fraction

-- the weight of the sign
abbrev pub top : Format → ℕ
top f = 2 ^ f.exponent * hidden f

abbrev pub infinity : Format → ℕ
infinity f = (2 ^ f.exponent - 1) * hidden f

-- "A NaN that is worked out is 7FC00000 (f16: 7E00)": of its digits only the highest
abbrev pub nan : Format → ℕ
nan f = infinity f + hidden f / 2

abbrev pub magnitude : Format → ℕ → ℕ
magnitude f n = n % top f

abbrev pub negative : Format → ℕ → Bool
negative f n = leb (top f) n

abbrev pub signed : Format → Bool → ℕ → ℕ
signed f s m = cond s (top f) 0 + m

abbrev pub is_nan : Format → ℕ → Bool
is_nan f n = ltb (infinity f) (magnitude f n)

-- ---- sizes

abbrev pub lowest : Format → ℕ
lowest f = 2 ^ (f.exponent - 1) + f.fraction - 2

-- the size of an exponent's field and the digits: a field of 0 has no leading digit, and counts as a field of 1
unfoldable pub fields : Format → ℕ → ℕ → ℕ
fields f zero t = t
fields f (suc e) t = (hidden f + t) * 2 ^ e

-- the size that a magnitude stands for
abbrev pub units : Format → ℕ → ℕ
units f m = fields f (m / hidden f) (m % hidden f)

-- the magnitude of a size that has no more digits between its first 1 and its last than the format keeps: it drops k zeros
unfoldable pub pattern : Format → ℕ → ℕ
pattern f u = let k = size u - suc f.fraction in k * hidden f + u / 2 ^ k

-- the size with as many digits as the format keeps that is nearest to a / c, a tie going to the even one
unfoldable pub rounded : Format → ℕ → ℕ → ℕ
rounded f a c = let k = size (a / c) - suc f.fraction in closest a (c * 2 ^ k) * 2 ^ k

-- the magnitude of a / c units, rounded once; where that is above every finite one it is the infinity's
unfoldable pub magnitude_of : Format → ℕ → ℕ → ℕ
magnitude_of f a c = min (pattern f (rounded f a c)) (infinity f)

-- a number's place in the numeric order, the two zeros in one
abbrev pub rank : Format → ℕ → ℕ
rank f n = cond (negative f n) (top f - magnitude f n) (top f + magnitude f n)
