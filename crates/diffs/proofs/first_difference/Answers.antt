-- The part of the listing on the place's side, which lies within it. Assumes nothing.
use native.Mathlib.Omega.{arith}
use Rattle.diffs.proofs.FirstLine.{end_within, part_found, none_found}
use Rattle.diffs.proofs.first_difference.Goals as goal

pub overflow_add-result : goal.overflow_add-result
overflow_add-result c =
    let a = c.args in
    omega (arith, end_within a.left.now a.right.now c.first_place.ensures c.in-Some.is c.listing_of-listing.ensures)

pub slice_bounds-result-end : goal.slice_bounds-result-end
slice_bounds-result-end c =
    let a = c.args in
    end_within a.left.now a.right.now c.first_place.ensures c.in-Some.is c.listing_of-listing.ensures

pub returns-in-Some : goal.returns-in-Some
returns-in-Some c =
    let a = c.args in
    part_found a.left.now a.right.now c.first_place.ensures c.in-Some.is c.listing_of-listing.ensures

pub returns-in-None : goal.returns-in-None
returns-in-None c =
    let a = c.args in
    none_found a.left.now a.right.now c.first_place.ensures c.in-None.is
