-- How the program finds lanes in a text, one after another; 2^32 stands for what is no lane. Program-shaped: no statement of what is read rests on this. Definitions only.
use Rattle.std.specs.Prelude.{ℕ, zero, suc, ◌+◌, ◌^◌, cond, List, [], ◌∷◌, eqb, ltb, take, drop, get_or}
use Rattle.buffers.specs.Text.{byte}
use Rattle.spelling.specs.Hex.{digits_below, number}

-- of w digits below b, from i on
abbrev pub lane_from : (b w : ℕ) → List ℕ → ℕ → ℕ
lane_from b w t i = cond (digits_below b (take w (drop i t))) (number 0 (take w (drop i t))) (2 ^ 32)

-- behind the byte `before` at i
abbrev pub lane_after : (b w before : ℕ) → List ℕ → ℕ → ℕ
lane_after b w before t i = cond (eqb (get_or t i 0) before) (lane_from b w t (i + 1)) (2 ^ 32)

-- n of them, a comma before each but the first, up to the first that is none
unfoldable pub lanes_from : (b w before n : ℕ) → List ℕ → ℕ → List ℕ
lanes_from b w before zero t i = []
lanes_from b w before (suc n) t i =
    cond (ltb (lane_after b w before t i) (2 ^ 32)) (lane_after b w before t i ∷ lanes_from b w (byte ",") n t (i + (w + 1))) []
