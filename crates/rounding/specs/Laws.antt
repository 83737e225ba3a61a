-- What Q-3 says of the five builtins, for every number of every format that is deep. Definitions only; proofs/Laws has the proof of each.
use Rattle.std.specs.Prelude.{ℕ, ◌+◌, ◌-◌, ◌*◌, ◌^◌, ◌≤◌, ◌<◌, ◌≡◌, true, false}
use Rattle.half.specs.Format.{Format, f16, f32, top, infinity, nan, magnitude, negative, is_nan, units, pattern}
use Rattle.half.specs.Nearest.{Rounds}
use Rattle.values.specs.declared.Scalar.{Scalar}
use Rattle.values.specs.Value.{lane_bits}
use Rattle.rounding.specs.declared.Way.{Way}
use Rattle.rounding.specs.declared.Way.TheVariants.{Floor, Ceil, Trunc, Round}
use Rattle.rounding.specs.Rounding.{one, whole, fract}
use Rattle.rounding.specs.Lanes.{whole_lane, fract_lane}
use Rattle.rounding.specs.Neighbours.{number_of, IsWhole, distance, opposite, IsFloor, IsCeil, IsTrunc, IsRound}

-- 0.5 is no subnormal, and a number with a digit behind the point is no neighbour of the infinity
pub record Deep (f : Format) : Type 0 where
  pub exponent : 3 ≤ f.exponent
  pub fraction : 0 < f.fraction
  pub range : f.fraction < 2 ^ (f.exponent - 1)

abbrev pub WidthsDeep : Type 0
WidthsDeep = Deep f16 × Deep f32

abbrev pub Finite : Format → ℕ → Type 0
Finite f x = magnitude f x < infinity f

-- ---- floor, ceil, trunc and round
abbrev pub FloorIs : Type 0
FloorIs = (f : Format) → Deep f → (x : ℕ) → Finite f x → IsFloor f (number_of f x) (number_of f (whole Floor f x))

abbrev pub CeilIs : Type 0
CeilIs = (f : Format) → Deep f → (x : ℕ) → Finite f x → IsCeil f (number_of f x) (number_of f (whole Ceil f x))

abbrev pub TruncIs : Type 0
TruncIs = (f : Format) → Deep f → (x : ℕ) → Finite f x → IsTrunc f (number_of f x) (number_of f (whole Trunc f x))

-- "round goes to nearest, ties to even"
abbrev pub RoundIs : Type 0
RoundIs = (f : Format) → Deep f → (x : ℕ) → Finite f x → IsRound f (number_of f x) (number_of f (whole Round f x))

-- "A zero result of the first four takes the argument's sign", and so does every other
abbrev pub SignKept : Type 0
SignKept = (f : Format) → Deep f → (w : Way) (x : ℕ) → Finite f x → negative f (whole w f x) ≡ negative f x

-- "infinities stay"
abbrev pub InfinityStays : Type 0
InfinityStays = (f : Format) (w : Way) (x : ℕ) → magnitude f x ≡ infinity f → whole w f x ≡ x

abbrev pub NanWorkedOut : Type 0
NanWorkedOut = (f : Format) (w : Way) (x : ℕ) → is_nan f x ≡ true → whole w f x ≡ nan f

-- what a way is on the other side of 0
abbrev pub mirror : Way → Way
mirror Floor = Ceil
mirror Ceil = Floor
mirror Trunc = Trunc
mirror Round = Round

-- floor(x) is -ceil(-x), ceil(x) is -floor(-x), trunc(x) is -trunc(-x) and round(x) is -round(-x)
abbrev pub Mirrored : Type 0
Mirrored = (f : Format) → Deep f → (w : Way) (x : ℕ) → x < 2 * top f → is_nan f x ≡ false → whole w f x ≡ opposite f (whole (mirror w) f (opposite f x))

abbrev pub TruncIsFloor : Type 0
TruncIsFloor = (f : Format) (x : ℕ) → negative f x ≡ false → whole Trunc f x ≡ whole Floor f x

abbrev pub TruncIsCeil : Type 0
TruncIsCeil = (f : Format) (x : ℕ) → negative f x ≡ true → whole Trunc f x ≡ whole Ceil f x

-- any way after any way, as floor after floor
abbrev pub StaysWhole : Type 0
StaysWhole = (f : Format) → Deep f → (v w : Way) (x : ℕ) → whole v f (whole w f x) ≡ whole w f x

-- ---- fract
-- "fract is e minus floor(e), rounded once": to nearest, as IEEE 754 states it
abbrev pub FractRounds : Type 0
FractRounds = (f : Format) → Deep f → (x : ℕ) → Finite f x → Rounds f (distance (number_of f x) (number_of f (whole Floor f x))) 1 (fract f x)

-- +0 of each whole number, and so of both zeros
abbrev pub FractOfWhole : Type 0
FractOfWhole = (f : Format) → Deep f → (x : ℕ) → Finite f x → IsWhole f (number_of f x) → fract f x ≡ 0

abbrev pub FractOfZero : Type 0
FractOfZero = (f : Format) → Deep f → (x : ℕ) → magnitude f x ≡ 0 → fract f x ≡ 0

-- 1.0 of a number below 0 that is too near to it to take a digit off 1: at most 2 ^ -(fraction + 2) in size
abbrev pub FractOfTiny : Type 0
FractOfTiny = (f : Format) → Deep f → (x : ℕ) → Finite f x → negative f x ≡ true → 0 < magnitude f x → units f (magnitude f x) * 2 ^ (f.fraction + 2) ≤ one f → fract f x ≡ pattern f (one f)

-- "and fract of an infinity is NaN", as is that of a NaN
abbrev pub FractUndefined : Type 0
FractUndefined = (f : Format) (x : ℕ) → infinity f ≤ magnitude f x → fract f x ≡ nan f

-- ---- results stay in the lane's bits
abbrev pub WholeLaneFits : Type 0
WholeLaneFits = (w : Way) (s : Scalar) (x : ℕ) → x < 2 ^ lane_bits s → whole_lane w s x < 2 ^ lane_bits s

abbrev pub FractLaneFits : Type 0
FractLaneFits = (s : Scalar) (x : ℕ) → x < 2 ^ lane_bits s → fract_lane s x < 2 ^ lane_bits s
