-- The invariant: the field that is sought is the one of what is left from `at` on that is `left` further. Assumes nothing.
use Prim.Native.Nat.{ℕ, ◌+◌, ◌-◌, ◌≤◌}
use mathlib.Core.List.{List}
use mathlib.Core.Path.{◌≡◌, ap, sym, ◌∙◌}
use native.Mathlib.Omega.{arith}
use lib.ListN.{length, drop, take, length-drop}
use lib.Seq.{take_all}
use Rattle.buffers.specs.Text.{place_of}
use Rattle.fields.proofs.Tabs.{tab_at, field_here, field_step, field_missing}
use Rattle.fields.proofs.field.Goals as goal
use Rattle.fields.proofs.field.Goals.{After-find-n}

tail : (line : List ℕ) (at : ℕ) → take (length line - at) (drop at line) ≡ drop at line
tail line at = take_all (length line - at) (drop at line) (omega (arith, length-drop at line))

found : (c : After-find-n) → c.find-n.result ≡ tab_at (drop c.loop-passed.at c.args.line.now)
found c = c.find-n.ensures.0 ∙ ap (place_of 9) (tail c.args.line.now c.loop-passed.at)

found_within : (c : After-find-n) → c.find-n.result ≤ length (drop c.loop-passed.at c.args.line.now)
found_within c = rw (tail c.args.line.now c.loop-passed.at) at c.find-n.ensures.1

pub returns-then-n-line : goal.returns-then-n-line
returns-then-n-line c =
    let line = c.args.line.now in
    let l = c.loop-passed in
    sym (l.invariant.1 ∙ field_missing (drop l.at line) c.find-n.result (c.args.k - l.passed) (omega arith) (found (goal.at.returns-then-n-line c).After-find-n) (omega (arith, c.if-n-line.true, length-drop l.at line)))

pub loop-passed-preserved : goal.loop-passed-preserved
loop-passed-preserved c =
    let line = c.args.line.now in
    let l = c.loop-passed in
    let one_more : c.args.k - (l.passed + 1) ≡ c.args.k - l.passed - 1 = omega arith in
    (omega (arith, found_within (goal.at.loop-passed-preserved c).After-find-n), rw one_more (l.invariant.1 ∙ field_step line l.at c.find-n.result (c.args.k - l.passed) (omega arith) (found (goal.at.loop-passed-preserved c).After-find-n)))

pub returns : goal.returns
returns c =
    let line = c.args.line.now in
    let l = c.loop-passed in
    let n : l.at + c.find.result - l.at ≡ tab_at (drop l.at line) = omega (arith, c.find.ensures.0 ∙ ap (place_of 9) (tail line l.at)) in
    let last : c.args.k - l.passed ≡ 0 = omega arith in
    sym (l.invariant.1 ∙ rw (last, n) (field_here (drop l.at line)))
