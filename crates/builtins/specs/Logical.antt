-- all, any and select. Definitions only.
use Rattle.std.specs.Prelude.{not, cond, [], ◌∷◌, eqb, replicate}
use Rattle.values.specs.declared.Scalar.TheVariants.{Boolean}
use Rattle.values.specs.declared.Kind.TheVariants.{One}
use Rattle.values.specs.declared.Value.{Value}
use Rattle.moves.specs.Moves.{select_lane}
use Rattle.values.specs.Value.{same_kind, lanes_of, lane, value, flag, every, lanewise3}

-- "all or any of a scalar is that scalar"
unfoldable pub all_of : Value → Value
all_of v = value (One Boolean) (flag (every (λ x. eqb x 1) (lanes_of v)) ∷ [])

unfoldable pub any_of : Value → Value
any_of v = value (One Boolean) (flag (not (every (λ x. eqb x 0) (lanes_of v))) ∷ [])

-- a scalar condition holds for every lane
abbrev pub spread : Value → Value
spread c = cond (same_kind c.kind (One Boolean)) (record { kind = c.kind; lanes = replicate 16 (lane c 0) }) c

-- select(f, t, cond): t where the condition is true
unfoldable pub select_of : Value → Value → Value → Value
select_of f t c = lanewise3 select_lane f t (spread c)
