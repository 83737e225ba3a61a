-- 02, Q-10: "For each norm format in both readings and for pack2x16float, a lane at or below another, neither NaN, never packs to a higher code (snorm codes as signed numbers, halves by their numeric order). And for a lane within the
-- clamping range, the code differs from scale times the lane by at most 1/2 in the text's reading and by at most 33/64 in the crate's, stated over whole numbers." Statements over the codes of lanes; of what a call gives they are gradients'.
use Rattle.std.specs.Prelude.{ℕ, ◌*◌, ◌≤◌, ◌≡◌, Bool, false, cond, T, ℤ, pos, neg_ℤ, nat_abs, ◌-ℤ◌, ◌*ℤ◌}
use Rattle.std.specs.Int.Signed.{le_z}
use Rattle.readings.specs.declared.Reading.{Reading}
use Rattle.readings.specs.declared.Reading.TheVariants as In
use Rattle.half.specs.Format.{f16, f32, magnitude, negative, is_nan, units, rank}
use Rattle.half.specs.Convert.{half_of}
use Rattle.norm.specs.Norm.{scale, number}
use Rattle.exact.specs.Exact.{one, norm_code}

-- ---- "a lane at or below another, neither NaN, never packs to a higher code"

-- what a lane packs to: a norm code, signed or not, of so many bits, or a half
pub data Coding : Type 0 where
  norm : Bool → ℕ → Coding
  half : Coding

abbrev pub code_of : Reading → Coding → ℕ → ℕ
code_of r (norm g w) = norm_code r g w
code_of r half = half_of

-- "snorm codes as signed numbers, halves by their numeric order"
abbrev pub number_of : Coding → ℕ → ℤ
number_of (norm g w) c = number g w c
number_of half c = pos (rank f16 c)

abbrev pub NotAbove : Coding → ℕ → ℕ → Type 0
NotAbove k c d = T (le_z (number_of k c) (number_of k d))

-- lanes by the numeric order, in which the two zeros are one
pub record AtOrBelow (x y : ℕ) : Type 0 where
  pub number : is_nan f32 x ≡ false
  pub other_number : is_nan f32 y ≡ false
  pub below : rank f32 x ≤ rank f32 y

abbrev pub NeverDarker : Reading → Coding → Type 0
NeverDarker r k = (x y : ℕ) → AtOrBelow x y → NotAbove k (code_of r k x) (code_of r k y)

-- ---- "for a lane within the clamping range, the code differs from scale times the lane by at most 1/2 .. and by at most 33/64"

-- the range's ends as f32 patterns: 0, or -1 where codes are signed, and 1
abbrev pub first : Bool → ℕ
first g = cond g 0xbf80_0000 0

abbrev pub last : ℕ
last = 0x3f80_0000

-- no NaN is there
pub record Inside (g : Bool) (x : ℕ) : Type 0 where
  pub least : rank f32 (first g) ≤ rank f32 x
  pub most : rank f32 x ≤ rank f32 last

-- in 64ths
abbrev pub allowed : Reading → ℕ
allowed In.Crate = 33
allowed In.Text = 32

-- the number that a lane is, in units of which `one` are 1
abbrev pub lane_number : ℕ → ℤ
lane_number x = let n = pos (units f32 (magnitude f32 x)) in cond (negative f32 x) (neg_ℤ n) n

-- the code c of the lane x
abbrev pub CloseTo : Reading → Bool → ℕ → ℕ → ℕ → Type 0
CloseTo r g w x c = 64 * nat_abs (number g w c *ℤ pos one -ℤ pos (scale g w) *ℤ lane_number x) ≤ allowed r * one

abbrev pub Close : Reading → Bool → ℕ → Type 0
Close r g w = (x : ℕ) → Inside g x → CloseTo r g w x (norm_code r g w x)
