-- What one more read brought stands behind what was read before it. Assumes nothing.
use Rattle.std.proofs.Common.{◌+◌, ◌≡◌, ◌++◌, take, drop, arith, ap, ◌∙◌}
use Rattle.std.proofs.Math.Seq.{take-add}
use Rattle.std.proofs.KnownBytes.{Consumes-trans}
use Rattle.refilling.proofs.fill.Goals as goal

pub loop-have-preserved : goal.loop-have-preserved
loop-have-preserved g c =
    let l = c.loop-have in
    let e = c.in_ok-n.ensures in
    let n = c.in_ok-n.n in
    let next = c.read_behind.new.buf in
    let split : take (l.have + n) next ≡ take l.have l.buf ++ take n (drop l.have next) =
    take-add l.have n next ∙ ap (λ xs. xs ++ take n (drop l.have next)) e.stays in (
      omega (arith, e.fits, l.invariant.1),
      e.same_length ∙ l.invariant.1,
      rw split (Consumes-trans _ _ _ (take l.have l.buf) (take n (drop l.have next)) l.invariant.2 e.bytes.0),
    )
