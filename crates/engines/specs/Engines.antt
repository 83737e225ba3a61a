-- The engines by their numbers, "0 arithmetic, 1 tables". Definitions only.
use Rattle.std.specs.Prelude.{◌≡◌, ℕ, Bool, true, false, cond, eqb, ltb, Result, MatchResult}
use Rattle.engines.specs.declared.Engine.{Engine}
use Rattle.engines.specs.declared.Engine.TheVariants.{Arithmetic, Tables}
use Rattle.engines.specs.declared.NoEngine.{NoEngine}

abbrev pub is_engine : ℕ → Bool
is_engine n = ltb n 2

-- of a number that is none nothing is asked
abbrev pub engine_at : ℕ → Engine
engine_at n = cond (eqb n 1) Tables Arithmetic

-- r is the engine of this number where it has one, and otherwise the number
abbrev pub Names : ℕ → Result Engine NoEngine → Type 0
Names n r = MatchResult r (λ x. (is_engine n ≡ true) × (x ≡ engine_at n)) (λ e. (is_engine n ≡ false) × (e.0 ≡ n))
