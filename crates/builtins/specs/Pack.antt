-- Packing and unpacking words: 01, "Lane i of a packed word stands at bit 8i or 16i". The integer lanes are packing's and the norm lanes exact's, by the reading, and the half lanes half's. Definitions only.
use Rattle.std.specs.Prelude.{ℕ, Bool, [], ◌∷◌, map}
use Rattle.std.specs.Int.Bits.{bit_or}
use Rattle.readings.specs.declared.Reading.{Reading}
use Rattle.readings.specs.declared.Reading.TheVariants as In
use Rattle.values.specs.declared.Scalar.TheVariants.{U32}
use Rattle.values.specs.declared.Kind.{Kind}
use Rattle.values.specs.declared.Kind.TheVariants.{One}
use Rattle.values.specs.declared.Value.{Value}
use Rattle.values.specs.Value.{lanes_of, lane, value}
use Rattle.numeric.specs.Parts.{parts, joined}
use Rattle.losses.specs.Losses.{loss_number, loss_of, largest}
use Rattle.norm.specs.Norm.{unpacked_norm}
use Rattle.exact.specs.Exact.{norm_code}
use Rattle.packing.specs.Lanes.{filling_from, clamped_i8}

-- "pack4xI8Clamp takes the low 8 bits as signed, extends the sign to 32 bits, shifts to the lane and joins by or, so that a negative lane fills every lane above it."
abbrev pub filling : Value → ℕ → ℕ
filling v i = filling_from (lane v i) i

unfoldable pub filled : Value → ℕ
filled v = bit_or (bit_or (bit_or (filling v 0) (filling v 1)) (filling v 2)) (filling v 3)

-- ---- words: "Lane i of a packed word stands at bit 8i or 16i."

abbrev pub word : ℕ → Value
word x = value (One U32) (x ∷ [])

-- lanes packed by f into w bits each
unfoldable pub packed : ℕ → (ℕ → ℕ) → Value → Value
packed w f v = word (joined w (map f (lanes_of v)))

-- n lanes of w bits each, unpacked by f to the type k
unfoldable pub unpacked : ℕ → ℕ → (ℕ → ℕ) → Kind → Value → Value
unpacked w n f k v = value k (map f (parts w n (lane v 0)))

-- pack4xI8Clamp; in the text's reading "lanes kept apart"
abbrev pub packed_clamped : Reading → Value → Value
packed_clamped In.Crate v = word (filled v)
packed_clamped In.Text v = packed 8 clamped_i8 v

-- the norm formats
abbrev pub packed_norms : Reading → Bool → ℕ → Value → Value
packed_norms r g w v = packed w (norm_code r g w) v

abbrev pub unpacked_norms : Bool → ℕ → ℕ → Kind → Value → Value
unpacked_norms g w n k v = unpacked w n (unpacked_norm g w) k v

-- what the lanes lose that become halves
unfoldable pub loss_in : Value → ℕ
loss_in v = largest (map (λ x. loss_number (loss_of x)) (lanes_of v))
