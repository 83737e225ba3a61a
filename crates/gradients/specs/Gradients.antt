-- 02, Q-10, of what a call gives: brighter's two statements, of each lane of a packer's value and its code in the word. Definitions only.
use Rattle.std.specs.Prelude.{ℕ, ◌/◌, ◌<◌, ◌≡◌, Bool, true, false, get_or}
use Rattle.readings.specs.declared.Reading.{Reading}
use Rattle.values.specs.declared.Value.{Value}
use Rattle.values.specs.Value.{lane_count, lane, Formed}
use Rattle.numeric.specs.Parts.{parts}
use Rattle.brighter.specs.Brighter.{Coding, norm, half, NotAbove, AtOrBelow, Inside, CloseTo}
use Rattle.formats.specs.Formats.{Format, x8snorm, x8unorm, x16snorm, x16unorm, x16float, lanes_kind, packing}

-- code i of the word that packing gives: where n lanes are packed each code has 32 / n bits
abbrev pub packed_at : Reading → Format → Value → ℕ → ℕ
packed_at r f v i = let n = lane_count (lanes_kind f) in get_or (parts (32 / n) n (lane (packing r f v) 0)) i 0

-- the values that the packer takes
pub record Taken (f : Format) (v : Value) : Type 0 where
  pub formed : Formed v
  pub kind : v.kind ≡ lanes_kind f

-- Where a lane is at or below the other value's, its code is not above the other's; whatever the other lanes are.
abbrev pub CallsNeverDarker : Reading → Format → Coding → Type 0
CallsNeverDarker r f k = (u v : Value) → Taken f u → Taken f v → (i : ℕ) → i < lane_count (lanes_kind f) → AtOrBelow (lane u i) (lane v i) → NotAbove k (packed_at r f u i) (packed_at r f v i)

abbrev pub CallsClose : Reading → Format → Bool → ℕ → Type 0
CallsClose r f g w = (v : Value) → Taken f v → (i : ℕ) → i < lane_count (lanes_kind f) → Inside g (lane v i) → CloseTo r g w (lane v i) (packed_at r f v i)

-- "each norm format"
abbrev pub EachNorm : (Format → Bool → ℕ → Type 0) → Type 0
EachNorm P = (P x8snorm true 8 × P x8unorm false 8) × (P x16snorm true 16 × P x16unorm false 16)

-- "and for pack2x16float"
abbrev pub EachPacker : (Format → Coding → Type 0) → Type 0
EachPacker P = EachNorm (λ f g w. P f (norm g w)) × P x16float half
