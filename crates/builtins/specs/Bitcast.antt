-- bitcast: "the bytes little-endian, lane 0 first". Definitions only.
use Rattle.std.specs.Prelude.{ℕ, zero, suc, ◌/◌, List, [], ◌∷◌, ◌++◌, take, drop}
use Rattle.values.specs.declared.Kind.{Kind}
use Rattle.values.specs.declared.Value.{Value}
use Rattle.values.specs.Value.{lane_bits, scalar_of, lane_count, lanes_of, value}
use Rattle.numeric.specs.Parts.{parts, joined}

-- the bytes of a lane of the type
abbrev pub lane_bytes : Kind → ℕ
lane_bytes k = lane_bits (scalar_of k) / 8

-- lanes of k bytes as bytes
abbrev pub bytes_of : ℕ → List ℕ → List ℕ
bytes_of k [] = []
bytes_of k (x ∷ xs) = parts 8 k x ++ bytes_of k xs

-- n lanes of k bytes from bytes
abbrev pub of_bytes : ℕ → ℕ → List ℕ → List ℕ
of_bytes k zero bs = []
of_bytes k (suc n) bs = joined 8 (take k bs) ∷ of_bytes k n (drop k bs)

unfoldable pub bitcast_of : Kind → Value → Value
bitcast_of t v = value t (of_bytes (lane_bytes t) (lane_count t) (bytes_of (lane_bytes v.kind) (lanes_of v)))
