-- What a conversion loses: 02, Q-7, "0 exact (zeros, infinities and NaN too), 1 rounded to a finite half, 2 a finite value became infinity".
-- Stated of the sizes, as half's own definitions are. Definitions only.
use Rattle.std.specs.Prelude.{ℕ, ◌*◌, ◌^◌, max, cond, List, [], ◌∷◌, ltb, eqb}
use Rattle.half.specs.Format.{Format, f16, f32, infinity, magnitude, lowest, units}
use Rattle.half.specs.Convert.{converted, half_of}
use Rattle.losses.specs.declared.Loss.{Loss}
use Rattle.losses.specs.declared.Loss.TheVariants.{Exact, Rounded, Overflowed}
use Rattle.losses.specs.declared.Converted.{Converted}

abbrev pub loss_number : Loss → ℕ
loss_number Exact = 0
loss_number Rounded = 1
loss_number Overflowed = 2

-- of a pattern of f that becomes one of g; the two sizes are multiplied out, so that both are counted in one unit
unfoldable pub loss_between : Format → Format → ℕ → Loss
loss_between f g n =
    let m = magnitude f n in
    let r = magnitude g (converted f g n) in
    cond (ltb m (infinity f)) (cond (ltb r (infinity g)) (cond (eqb (units f m * 2 ^ lowest g) (units g r * 2 ^ lowest f)) Exact Rounded) Overflowed) Exact

-- of an f32 that becomes a half
abbrev pub loss_of : ℕ → Loss
loss_of n = loss_between f32 f16 n

-- "The f32-to-half conversion shall also tell"
abbrev pub told_of : ℕ → Converted
told_of n = record { half = half_of n; loss = loss_of n }

-- of several, "the larger of .. numbers"
abbrev pub largest : List ℕ → ℕ
largest [] = 0
largest (x ∷ xs) = max x (largest xs)
