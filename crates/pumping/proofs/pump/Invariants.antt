-- Turn follows turn. Each is counted, so that either the number of turns ran out or all was done. All that they read is gone from the input,
-- and all their text is written. Assumes nothing.
use Rattle.std.proofs.Common.{ℕ, ◌+◌, ◌-◌, ◌^◌, ◌⊎◌, ◌≡◌, true}
use Rattle.std.specs.Io.KnownBytes.{Appends, Consumes, IsAtEnd}
use Rattle.stream.specs.Stream.{start_of, step_lines}
use Rattle.inputs.specs.Turns.{Turns, all_read, all_text}
use Rattle.pumping.proofs.pump.Given as goal

abbrev pub invariant-loop-turns : goal.invariant-loop-turns
invariant-loop-turns g l =
    (k : ℕ) × (t : Turns l.reading step_lines l.initial.buf start_of k l.buf l.h)
    × ((k + l.turns ≡ 2 ^ 64 - 1) ⊎ ((l.h.done ≡ true) × (l.turns ≡ 0)))
    × Consumes (g.R.Read.remaining l.initial.input) (g.R.Read.remaining l.input) (all_read t)
    × Appends (g.W.Write.contents l.initial.output) (g.W.Write.contents l.output) (all_text t)
    × (l.h.last ≡ true → IsAtEnd (g.R.Read.remaining l.input))

abbrev pub decreases-loop-turns : goal.decreases-loop-turns
decreases-loop-turns g l = l.turns
