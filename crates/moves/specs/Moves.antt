-- Lanes that are moved as they are: select's, and those of a transposed matrix. Definitions only.
use Rattle.std.specs.Prelude.{ℕ, zero, suc, ◌+◌, ◌*◌, ◌/◌, ◌%◌, cond, List, [], ◌∷◌, map, eqb}
use Rattle.values.specs.declared.Kind.{Kind}
use Rattle.values.specs.declared.Kind.TheVariants.{Empty, One, Vec, Mat}
use Rattle.values.specs.declared.Value.{Value}
use Rattle.values.specs.Value.{size_of, lane, value}

-- select(f, t, cond): t where the condition is true
abbrev pub select_lane : ℕ → ℕ → ℕ → ℕ
select_lane f t c = cond (eqb c 0) f t

-- n numbers from i up
abbrev pub up_to : ℕ → ℕ → List ℕ
up_to i zero = []
up_to i (suc n) = i ∷ up_to (suc i) n

-- "the lane at column c, row r moves to column r, row c": lane j of the result, in its column j / c and its row j % c, for c columns of r rows before
abbrev pub transposed_lanes : ℕ → ℕ → Value → List ℕ
transposed_lanes c r v = map (λ j. lane v (j % c * r + j / c)) (up_to 0 (c * r))

abbrev pub transposed : Kind → Value → Value
transposed Empty v = v
transposed (One s) v = v
transposed (Vec n s) v = v
transposed (Mat c r w) v = value (Mat r c w) (transposed_lanes (size_of c) (size_of r) v)

unfoldable pub transpose_of : Value → Value
transpose_of v = transposed v.kind v
