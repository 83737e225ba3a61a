-- `exponent::placed` meets its contract: by how far the digits stand above the units, or below. Assumes nothing.
use Rattle.std.proofs.Common.{◌≡◌, ℕ, ◌+◌, ◌-◌, ◌*◌, ◌<◌, ◌≤◌, min, sym, ap, ◌∙◌, le_trans, le_of_eq, lt_of_lt_of_le, arith, lit≤, pow_pos, pow_mono}
use lib.Ieee.Nearest.{closest}
use Rattle.half.specs.Format.{f32}
use Rattle.exponent.proofs.Times.{placed_high, placed_low}
use Rattle.exponent.proofs.placed.Goals as goal

-- the exponent's field is full from 278 up, and not before
past : (q a : ℕ) → 278 ≤ a → 0x80_0000 ≤ q → 0x7f80_0000 ≡ min ((a - 24) * 0x80_0000 + q) 0x7f80_0000
past q a h k = omega arith

within : (q a : ℕ) → a < 278 → q < 0x0100_0000 → (a - 24) * 0x80_0000 + q ≡ min ((a - 24) * 0x80_0000 + q) 0x7f80_0000
within q a h k = omega arith

pub nearest_div-requires : goal.nearest_div-requires
nearest_div-requires c = (
  omega arith,
  lt_of_lt_of_le (pow_pos _) (le_of_eq (sym c.power.ensures)),
  le_trans (le_of_eq c.power.ensures) (pow_mono {j = 24} (omega arith)),
)

pub returns-then-a-ge278 : goal.returns-then-a-ge278
returns-then-a-ge278 c =
    let a = c.args in
    past a.q a.a (omega arith) c.requires.0 ∙ sym (placed_high f32 a.q c.requires.0 c.requires.1 a.a (a.a - 24) (omega arith))

pub returns-then-a-ge24 : goal.returns-then-a-ge24
returns-then-a-ge24 c =
    let a = c.args in
    within a.q a.a (omega arith) c.requires.1 ∙ sym (placed_high f32 a.q c.requires.0 c.requires.1 a.a (a.a - 24) (omega arith))

pub returns-else-a-ge24 : goal.returns-else-a-ge24
returns-else-a-ge24 c =
    let a = c.args in
    let pre = c.requires in
    c.nearest_div.ensures ∙ ap (closest a.q) c.power.ensures ∙ sym (placed_low f32 a.q pre.0 pre.1 (lit≤ tt) a.a (24 - a.a) (omega arith))
