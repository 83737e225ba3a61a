-- What Q-7 says of the losses, number by number, for every f32. Definitions only; proofs/Laws has the proof of each.
use Rattle.std.specs.Prelude.{ℕ, ◌*◌, ◌^◌, ◌≤◌, ◌<◌, ◌≡◌, ◌⊎◌, ◌↔◌, true, false}
use Rattle.half.specs.Format.{f16, f32, infinity, magnitude, is_nan, lowest, units}
use Rattle.half.specs.Convert.{half_of, single_of}
use Rattle.losses.specs.declared.Loss.TheVariants.{Exact, Rounded, Overflowed}
use Rattle.losses.specs.Losses.{loss_of}

-- 65520 as an f32
abbrev pub overflows_from : ℕ
overflows_from = 0x477f_f000

abbrev pub Is65520 : Type 0
Is65520 = units f32 overflows_from ≡ 65520 * 2 ^ lowest f32

-- the f32 of the half is the f32 again
abbrev pub ComesBack : ℕ → Type 0
ComesBack n = single_of (half_of n) ≡ n

-- "0 exact": a number exactly where it comes back
abbrev pub ExactWhere : Type 0
ExactWhere = (n : ℕ) → n < 2 ^ 32 → is_nan f32 n ≡ false → (loss_of n ≡ Exact) ↔ ComesBack n

-- "(zeros, infinities and NaN too)", of either sign
abbrev pub ExactToo : Type 0
ExactToo = (n : ℕ) → (magnitude f32 n ≡ 0) ⊎ (magnitude f32 n ≡ infinity f32) ⊎ (is_nan f32 n ≡ true) → loss_of n ≡ Exact

-- "1 rounded to a finite half": the numbers below 65520 in size that do not come back
abbrev pub RoundedWhere : Type 0
RoundedWhere = (n : ℕ) → n < 2 ^ 32 → (loss_of n ≡ Rounded) ↔ ((magnitude f32 n < overflows_from) × (ComesBack n → ⊥))

-- and so each that is not zero and becomes a zero
abbrev pub ZeroRounded : Type 0
ZeroRounded = (n : ℕ) → n < 2 ^ 32 → (magnitude f32 n ≡ 0 → ⊥) → magnitude f16 (half_of n) ≡ 0 → loss_of n ≡ Rounded

-- "2 a finite value became infinity": the finite numbers from 65520 in size up
abbrev pub OverflowedWhere : Type 0
OverflowedWhere = (n : ℕ) → n < 2 ^ 32 → (loss_of n ≡ Overflowed) ↔ ((magnitude f32 n < infinity f32) × (overflows_from ≤ magnitude f32 n))
