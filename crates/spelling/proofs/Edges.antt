-- Q-2's faults at the edges, worked out over the definition alone: one table, one proof, by computing. Assumes nothing.
use Prim.Native.Nat.{ℕ}
use Prim.Native.String.{String}
use mathlib.Core.Bool.{Bool, true, ◌&&◌}
use mathlib.Core.List.{List, [], ◌∷◌}
use mathlib.Core.Path.{◌≡◌, refl}
use lib.Dec.{eqb}
use Rattle.buffers.specs.Text.{first_spelled, bytes, same_bytes, place_of}
use Rattle.values.specs.Value.{empty_value, value}
use Rattle.spelling.specs.Types.{kind_of}
use Rattle.spelling.specs.declared.Reading.{Reading}
use Rattle.spelling.specs.Read.{fault_number, read_value, read_lanes, lanes_at, wrong, found}

-- a spelling, its fault's number and the place
pub data Case : Type 0 where
  case : String → ℕ → ℕ → Case

abbrev pub told : Reading → ℕ → ℕ → Bool
told r f p = eqb (fault_number r.fault) f && eqb r.place p

unfoldable pub right : List Case → Bool
right [] = true
right (case s f p ∷ cs) = told (read_value (bytes s)) f p && right cs

unfoldable pub edges : List Case
edges =
    case "" 9 1
    ∷ case ":" 9 1
    ∷ case ":00000000" 9 1
    ∷ case "i32" 9 1
    ∷ case "vec4f:00000000" 9 1
    ∷ case "mat2x2<i32>:0" 9 1
    ∷ case "vec4<f32>" 9 1
    ∷ case "I32:00000000" 9 1
    ∷ case " i32:00000000" 9 1
    ∷ case "i32:" 11 5
    ∷ case "vec2<i32>:" 11 11
    ∷ case "i32:0000000" 11 12
    ∷ case "i32:000000000" 11 13
    ∷ case "i32:0000000a" 11 12
    ∷ case "i32:00000000" 0 0
    ∷ case "i32:00000000," 10 13
    ∷ case "i32:0000000,0" 11 12
    ∷ case "i32:00000000,0" 10 13
    ∷ case "i32:00000000 " 11 13
    ∷ case "i32:0000G000" 11 9
    ∷ case "bool:2" 11 6
    ∷ case "bool:1,1" 10 7
    ∷ case "vec2<bool>:1" 10 13
    ∷ case "vec2<bool>:1," 11 14
    ∷ case "vec2<bool>:1,1," 10 15
    ∷ case "vec2<f16>:3C00,4000" 0 0
    ∷ case "vec2<f16>:3C00:4000" 11 15
    ∷ case "vec2<f16>:3C0,4000" 11 14
    ∷ case "vec2<f16>:3C00,400" 11 19
    ∷ case "vec2<f16>:3C00,40001" 11 20
    ∷ case "vec2<f16>:,4000" 11 11
    ∷ case "mat2x2<f16>:0000,0000,0000,0000" 0 0
    ∷ case "mat2x2<f16>:0000,0000,0000" 10 27
    ∷ []

pub edges_right : right edges ≡ true
unfolding right edges read_value read_lanes lanes_at place_of kind_of first_spelled same_bytes wrong found empty_value value
edges_right = refl
