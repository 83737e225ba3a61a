-- A program's loop prints what is stated for all of the input: each of its turns is what a program may do. Assumes nothing.
use Prim.Native.Nat.{ℕ, ◌<◌}
use mathlib.Core.List.{List, [], append-nil}
use mathlib.Core.Bool.{true}
use mathlib.Core.Path.{◌≡◌, sym, ◌∙◌}
use lib.ListN.{length}
use borrow.Author.Tests.{eqb-true}
use Rattle.readings.specs.declared.Reading.{Reading}
use Rattle.stream.specs.Printed.{printed}
use Rattle.cutting.specs.Cutting.{held_of}
use Rattle.stream.specs.Stream.{start_of}
use Rattle.inputs.specs.Runs.{Run, reads, ends, Loop, steps, fills, stops}
use Rattle.stream.specs.declared.Held.{Held}
use Rattle.inputs.proofs.Stream.{stream}
use Rattle.inputs.proofs.Steps.{not_both, step_last, step_run, step_done}

-- each turn of the loop is what a program may do
pub loop_run : {R : Reading} {n : ℕ} {b : List ℕ} {h : Held} {rest out : List ℕ} → 0 < n → (h.last ≡ true → rest ≡ []) → Loop R n b h rest out
    → Run R h.skip (held_of b h.at h.have) rest out
loop_run pos end (steps b h l) = step_run _ _ b h end (loop_run pos (λ e. end (sym (step_last _ _ b h) ∙ e)) l)
loop_run {R} {n} pos end (fills b h next more rest f last e l) =
    step_run R n b h end (reads _ more rest (rw e at (loop_run pos (λ g. last (eqb-true (length more) 0 g)) l)))
loop_run {R} {n} pos end (stops b h f) =
    rw append-nil at (step_run R n b h {rest = []} {out = []} end (rw (step_done R n b h pos f) ends))

-- from an empty buffer on, all that is written is what is printed for all that is read
pub loop_prints : {R : Reading} {n : ℕ} {b input out : List ℕ} → 0 < n → Loop R n b start_of input out → out ≡ printed R input
unfolding held_of
loop_prints pos l = stream (loop_run pos (λ e. absurd (not_both e)) l)
