-- The invariant: of all lines, those from `at` on are still to be judged and counted. Each turn takes the line there off. Assumes nothing.
use borrow.Author.Rules.{rules}
use Prim.Native.Nat.{◌<◌}
use mathlib.Core.Path.{refl, ap, sym, ◌∙◌}
use native.Mathlib.Omega.{arith}
use lib.ListN.{length}
use Rattle.listings.specs.Answers.{read_answer}
use Rattle.listings.proofs.ListingLines.{next_in, next_more, judged_more, judged_all, too_long}
use Rattle.listings.proofs.judge_listing.Goals as goal

pub returns-then-listing-gt-LONGEST_LISTING : goal.returns-then-listing-gt-LONGEST_LISTING
returns-then-listing-gt-LONGEST_LISTING c = too_long c.args.listing.now c.if-listing-gt-LONGEST_LISTING.true

pub loop-at-init : goal.loop-at-init
loop-at-init c = (search rules, search rules, refl, omega arith)

pub loop-at-smaller : goal.loop-at-smaller
loop-at-smaller c =
    let s = c.args.listing.now in
    let at = c.loop-at.at in
    let left : at < length s = omega arith in
    omega (arith, next_more s at left, next_in s at)

pub loop-at-preserved : goal.loop-at-preserved
loop-at-preserved c =
    let s = c.args.listing.now in
    let l = c.loop-at in
    let left : l.at < length s = omega arith in
    let ok = c.is_answer-good.ensures ∙ ap (λ t. (read_answer t).ok) c.line_at.ensures in
    let more = judged_more s l.at left l.good c.is_answer-good.result c.next_at-at.result ok c.next_at-at.ensures in
    (omega (arith, next_in s l.at), omega (arith, next_more s l.at left), sym more.0 ∙ l.invariant.2, omega arith)

pub returns : goal.returns
returns c =
    let s = c.args.listing.now in
    let l = c.loop-at in
    judged_all s l.at l.good l.count c.if-listing-gt-LONGEST_LISTING.false (omega arith) l.invariant.2 l.invariant.3 c.choose.ensures
