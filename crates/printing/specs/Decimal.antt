-- Numbers in decimal digits, and what a refusal prints: 01, "Lines", and 02, Q-2. Definitions only.
use Rattle.std.specs.Prelude.{ℕ, zero, suc, ◌+◌, ◌/◌, ◌%◌, cond, List, [], ◌∷◌, ◌++◌, ltb, eqb}
use Rattle.buffers.specs.Text.{bytes}

-- the low n decimal digits of v, the highest first
unfoldable pub digits : ℕ → ℕ → List ℕ
digits zero v = []
digits (suc n) v = digits n (v / 10) ++ ((48 + v % 10) ∷ [])

-- how many digits a number below 1,000 has
unfoldable pub places : ℕ → ℕ
places v = cond (ltb v 10) 1 (cond (ltb v 100) 2 3)

abbrev pub decimal : ℕ → List ℕ
decimal v = digits (places v) v

-- "A refusal prints `refused`, tab, number." Nothing where there is none.
unfoldable pub refused_text : ℕ → List ℕ
refused_text n = cond (eqb n 0) [] (bytes "refused\t" ++ decimal n)

-- 02, Q-2: "A line so refused prints the place as a third field." Nothing where there is none.
unfoldable pub place_text : ℕ → List ℕ
place_text p = cond (eqb p 0) [] (bytes "\t" ++ decimal p)

abbrev pub refused_at : ℕ → ℕ → List ℕ
refused_at n p = refused_text n ++ place_text p
