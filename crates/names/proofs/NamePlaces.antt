-- Each builtin's name is cut from the program's text of all names where its number says: one test that is computed over all numbers. Assumes nothing.
use Prim.Native.Nat.{ℕ, suc, ◌-◌, ◌≤◌, ◌<◌}
use mathlib.Core.Bool.{Bool, true, ◌&&◌}
use mathlib.Core.List.{List}
use mathlib.Core.Path.{◌≡◌, refl}
use borrow.Author.Tests.{leb-true}
use lib.Dec.{leb}
use lib.ListN.{length, take, drop}
use Rattle.calls.specs.Table.{builtin_at}
use Rattle.values.proofs.Bools.{both}
use Rattle.buffers.specs.Text.{same_bytes}
use Rattle.buffers.proofs.Lookup.{same_true}
use Rattle.values.proofs.Tested.{below, below_at}
use Rattle.names.specs.Names.{name_of}
use Rattle.names.specs.Program.{candidates, start, names_of}

abbrev pub text : List ℕ
text = names_of candidates

abbrev up : ℕ → Bool
up i = leb (start i) (start (suc i))

abbrev within : ℕ → Bool
within i = leb (start (suc i)) (length text)

abbrev spelled : ℕ → Bool
spelled i = same_bytes (name_of (builtin_at i)) (take (start (suc i) - start i) (drop (start i) text))

test : ℕ → Bool
test i = up i && (within i && spelled i)

passed : (i : ℕ) → i < 41 → test i ≡ true
unfolding test below same_bytes start builtin_at
passed i h = below_at test 41 i refl h

module _ (i : ℕ) (h : i < 41) where
  parts : (up i ≡ true) × (within i && spelled i ≡ true)
  unfolding test
  parts = both (up i) (within i && spelled i) (passed i h)

  pub rises : start i ≤ start (suc i)
  rises = leb-true (start i) (start (suc i)) parts.0

  pub inside : start (suc i) ≤ length text
  inside = leb-true (start (suc i)) (length text) (both (within i) (spelled i) parts.1).0

  pub cut : name_of (builtin_at i) ≡ take (start (suc i) - start i) (drop (start i) text)
  cut = same_true (name_of (builtin_at i)) (take (start (suc i) - start i) (drop (start i) text)) (both (within i) (spelled i) parts.1).1
