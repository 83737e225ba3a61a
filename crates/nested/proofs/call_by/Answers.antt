-- By whether the name is bitcast's. Assumes nothing.
use Prim.Native.Nat.{ℕ}
use mathlib.Core.Bool.{Bool}
use mathlib.Core.List.{List}
use mathlib.Core.Path.{◌≡◌, sym}
use Rattle.buffers.specs.Text.{same_bytes}
use Rattle.calls.specs.declared.Builtin.TheVariants.{Bitcast}
use Rattle.names.specs.Names.{name_of}
use Rattle.nesting.specs.Grammar.{is_bitcast}
use Rattle.nested.specs.Nested.{call_by}
use Rattle.nested.proofs.call_by.Goals as goal

by_name : (w : List ℕ) (b : Bool) → b ≡ same_bytes (name_of Bitcast) w → is_bitcast w ≡ b
unfolding is_bitcast
by_name w b q = sym q

pub returns-then-same : goal.returns-then-same
unfolding call_by
returns-then-same c = rw (by_name _ _ c.same.ensures, c.if-same.true, c.builtin_at.ensures, c.number_of.ensures, c.empty.ensures, c.empty-then-same.ensures)

pub returns : goal.returns
unfolding call_by
returns c = rw (by_name _ _ c.same.ensures, c.if-same.false, c.builtin_at.ensures, c.number_of.ensures)
