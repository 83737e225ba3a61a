-- Four times one place more. Assumes nothing.
use Prim.Native.Nat.{ℕ, suc, ◌+◌, ◌<◌}
use mathlib.Core.Bool.{not, ◌&&◌}
use mathlib.Core.Path.{◌≡◌}
use native.Mathlib.Nat.{add-zero}
use native.Mathlib.Omega.{arith}
use lib.Dec.{leb, eqb, leb-zero}
use lib.ListN.{drop, get_or}
use Rattle.buffers.specs.Text.{place_of}
use Rattle.buffers.proofs.FirstPlace.{place_from_lem}
use Rattle.buffers.proofs.none_of_four.Goals as goal

pub returns : goal.returns
returns c =
    let a = c.args in
    let more : (n : ℕ) → n < 4 → leb (suc n) (place_of a.b (drop a.i a.s.now)) ≡ leb n (place_of a.b (drop a.i a.s.now)) && not (eqb (get_or a.s.now (a.i + n) 0) a.b)
    = λ n h. place_from_lem a.b a.s.now a.i n (omega arith) in
    rw (more 3 (omega arith), more 2 (omega arith), more 1 (omega arith), more 0 (omega arith), leb-zero, add-zero)
