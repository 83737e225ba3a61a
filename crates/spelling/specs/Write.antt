-- How a value is spelled: 01, "Lines": "A value is type, colon, lanes parted by commas". Definitions only.
use Rattle.std.specs.Prelude.{ℕ, ◌+◌, ◌*◌, List, [], ◌∷◌, ◌++◌, length}
use Rattle.values.specs.Value.{lane_count, scalar_of, lanes_of}
use Rattle.values.specs.declared.Kind.{Kind}
use Rattle.values.specs.declared.Value.{Value}
use Rattle.buffers.specs.Text.{byte}
use Rattle.spelling.specs.Types.{spelled}
use Rattle.spelling.specs.Hex.{digit_count, hex_bytes}

-- lanes of w digits each, `before` in front of the first and a comma in front of each other
unfoldable pub lanes_text : ℕ → ℕ → List ℕ → List ℕ
lanes_text before w [] = []
lanes_text before w (v ∷ vs) = before ∷ (hex_bytes w v ++ lanes_text (byte ",") w vs)

-- type, colon, lanes parted by commas
unfoldable pub text_of : Value → List ℕ
text_of v = spelled v.kind ++ lanes_text (byte ":") (digit_count (scalar_of v.kind)) (lanes_of v)

-- how many bytes that is, whatever the lanes
unfoldable pub text_length : Kind → ℕ
text_length k = length (spelled k) + lane_count k * (digit_count (scalar_of k) + 1)
