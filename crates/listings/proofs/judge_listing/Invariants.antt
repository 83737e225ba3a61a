-- The invariant: of all lines, those from `at` on are still to be judged and counted. Each turn takes the line there off. Assumes nothing.
use Prim.Native.Nat.{◌+◌, ◌-◌, ◌≤◌}
use mathlib.Core.Bool.{◌&&◌}
use mathlib.Core.Path.{◌≡◌}
use lib.ListN.{length, drop}
use Rattle.cutting.specs.Lines.{lines}
use Rattle.listings.specs.Listing.{all_answers}
use Rattle.listings.proofs.judge_listing.Given as goal

abbrev pub invariant-loop-at : goal.invariant-loop-at
invariant-loop-at l = (l.at ≤ length l.listing) × (l.count ≤ l.at) × (l.good && all_answers (lines (drop l.at l.listing)) ≡ all_answers (lines l.listing))
    × (l.count + length (lines (drop l.at l.listing)) ≡ length (lines l.listing))

abbrev pub decreases-loop-at : goal.decreases-loop-at
decreases-loop-at l = length l.listing - l.at
