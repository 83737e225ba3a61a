-- Which formats the program works in, those that leave room in 32 bits, what it adds to a rest, and what it ensures of a magnitude. No statement of what a call
-- gives rests on this. Definitions only.
use Rattle.std.specs.Prelude.{ℕ, ◌+◌, ◌-◌, ◌/◌, ◌%◌, ◌≤◌, ◌≡◌, Bool, true, false, cond, eqb}
use Rattle.half.specs.Program.{format}
use Rattle.rounding.specs.declared.Way.{Way}
use Rattle.rounding.specs.declared.Way.TheVariants.{Floor, Ceil, Trunc, Round}
use Rattle.rounding.specs.Rounding.{whole_magnitude}
use Rattle.rounding.specs.Laws.{Deep}

pub record Sized (e p : ℕ) : Type 0 where
  pub deep : Deep (format e p)
  pub bits : e + p ≤ 31

-- which sign has every rest go up, away from 0: 1 the negative numbers', 0 the others', 2 none
abbrev pub outward : Way → ℕ
outward Floor = 1
outward Ceil = 0
outward Trunc = 2
outward Round = 2

abbrev pub is_away : Way → Bool → Bool
is_away w s = eqb (cond s 1 0) (outward w)

abbrev pub is_round : Way → Bool
is_round Floor = false
is_round Ceil = false
is_round Trunc = false
is_round Round = true

-- what is added so that just a rest of n + r / c that goes up reaches c
abbrev pub lift : Bool → Bool → ℕ → ℕ → ℕ
lift nearest away n c = cond nearest (cond (eqb (n % 2) 0) (c - 1) c / 2) (cond away (c - 1) 0)

-- r is the magnitude m made whole, by each way and sign that the two tests hold of
abbrev pub MadeWhole : Bool → Bool → ℕ → ℕ → ℕ → ℕ → Type 0
MadeWhole nearest away e p m r = (w : Way) (s : Bool) → nearest ≡ is_round w → away ≡ is_away w s → r ≡ whole_magnitude w s (format e p) m
