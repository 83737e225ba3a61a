-- cross and dot. Definitions only.
use Rattle.std.specs.Prelude.{ℕ, ◌-◌, [], ◌∷◌}
use Rattle.values.specs.declared.Kind.TheVariants.{One}
use Rattle.values.specs.declared.Value.{Value}
use Rattle.values.specs.Value.{scalar_of, lane_count, lane, value}
use Rattle.products.specs.Products.{cross_lane, dot_lane}

-- ai bj - aj bi
abbrev pub crossed : Value → Value → ℕ → ℕ → ℕ
crossed a b i j = cross_lane (lane a i) (lane b j) (lane a j) (lane b i)

-- "cross is (a1b2-a2b1, a2b0-a0b2, a0b1-a1b0)"
unfoldable pub cross_of : Value → Value → Value
cross_of a b = value a.kind (crossed a b 1 2 ∷ crossed a b 2 0 ∷ crossed a b 0 1 ∷ [])

-- "dot adds the products from lane 0 up"
unfoldable pub dot_of : Value → Value → Value
dot_of a b = value (One (scalar_of a.kind)) (dot_lane (scalar_of a.kind) (lane a) (lane b) (lane_count a.kind - 1) ∷ [])
