-- As many words are copied as the array has. Assumes nothing.
use Prim.Native.Nat.{◌+◌, ◌-◌}
use mathlib.Core.Path.{◌≡◌, ap, ◌∙◌}
use native.Mathlib.Omega.{arith}
use lib.ListN.{take, drop}
use Rattle.words.proofs.sixteen.Goals as goal

pub returns : goal.returns
returns c =
    let e : c.args.at + 17 - (c.args.at + 1) ≡ 16 = omega arith in
    c.copy_from_slice.ensures.after ∙ ap (λ n. take n (drop (c.args.at + 1) c.args.w.now)) e
