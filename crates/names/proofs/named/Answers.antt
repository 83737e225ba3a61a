use mathlib.Core.Path.{ap, sym, ◌∙◌}
use mathlib.Core.List.{List}
use Prim.Native.Nat.{ℕ}
use Rattle.buffers.specs.Text.{same_bytes}
use native.Mathlib.Omega.{arith}
use native.Mathlib.Numerals.{add-one}
use Rattle.names.specs.Program.{start}
use Rattle.names.proofs.NamePlaces.{rises, cut, inside}
use Rattle.names.proofs.named.Goals as goal

pub slice_bounds-same-count : goal.slice_bounds-same-count
slice_bounds-same-count c = omega (arith, rises c.args.i c.requires, c.start_of-end.ensures, c.start_of-start.ensures, ap start (add-one c.args.i))

pub returns : goal.returns
returns c = let i = c.args.i in c.same.ensures ∙ ap (λ (l : List ℕ). same_bytes l c.args.s.now) (rw (c.start_of-end.ensures, c.start_of-start.ensures, ap start (add-one i)) (sym (cut i c.requires)))

pub slice_bounds-same-start : goal.slice_bounds-same-start
slice_bounds-same-start c = omega (arith, rises c.args.i c.requires, c.start_of-end.ensures, c.start_of-start.ensures, ap start (add-one c.args.i))

pub slice_bounds-same-end : goal.slice_bounds-same-end
slice_bounds-same-end c = omega (arith, inside c.args.i c.requires, c.start_of-end.ensures, c.start_of-start.ensures, ap start (add-one c.args.i))
