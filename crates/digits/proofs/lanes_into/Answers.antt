-- The invariant: putting all lanes comes to putting those from the k-th on, from where the turn stands. Assumes nothing.
use Prim.Native.Nat.{◌+◌, ◌-◌}
use mathlib.Core.List.{[]}
use mathlib.Core.Path.{◌≡◌, refl, ap, sym, ◌∙◌}
use native.Mathlib.Nat.{add_assoc, add-zero, zero-add, sub-zero}
use native.Mathlib.Omega.{arith}
use borrow.Author.Rules.{rules}
use lib.ListN.{length, length-set}
use Rattle.buffers.proofs.Puts.{put_nil, put_cons}
use Rattle.spelling.specs.Hex.{digit_count, digit_bound}
use Rattle.digits.specs.Program.{lanes_from}
use Rattle.digits.proofs.LaneTexts.{lane_right, lane_wrong, lane_within, lanes_none}
use Rattle.digits.proofs.lanes_into.Goals as goal

pub loop-k-init : goal.loop-k-init
loop-k-init c = (search rules, refl, rw sub-zero c.requires.1, rw (sub-zero, zero-add), rw (add-zero, sub-zero))

pub lane_after-x-requires : goal.lane_after-x-requires
lane_after-x-requires c =
    let a = c.args in
    let l = c.loop-k in
    let r = lane_within (digit_bound a.s) (digit_count a.s) l.before a.n l.k a.t.now l.next c.loop-k-test.true in
    omega (arith, r)

pub returns-then-x-ge-NO_LANE : goal.returns-then-x-ge-NO_LANE
returns-then-x-ge-NO_LANE c =
    let a = c.args in
    let l = c.loop-k in
    let z = lane_wrong (digit_bound a.s) (digit_count a.s) l.before a.n l.k a.t.now l.next c.loop-k-test.true c.lane_after-x.ensures c.if-x-ge-NO_LANE.true in
    (omega (arith, l.invariant.3, ap length z), sym (l.invariant.4 ∙ rw z (put_nil _ _)))

pub overflow_add-next : goal.overflow_add-next
overflow_add-next c =
    let a = c.args in
    let l = c.loop-k in
    let r = lane_within (digit_bound a.s) (digit_count a.s) l.before a.n l.k a.t.now l.next c.loop-k-test.true in
    record { fits = omega (arith, r, c.digit_count-step.ensures.0) }

pub loop-k-preserved : goal.loop-k-preserved
loop-k-preserved c =
    let a = c.args in
    let l = c.loop-k in
    let h = c.loop-k-test.true in
    let w = c.digit_count-step.ensures.0 in
    let x = c.lane_after-x in
    let e = lane_right (digit_bound a.s) (digit_count a.s) l.before a.n l.k a.t.now l.next h x.ensures c.if-x-ge-NO_LANE.false in
    let r = lane_within (digit_bound a.s) (digit_count a.s) l.before a.n l.k a.t.now l.next h in (
      search rules,
      simp length-set (search rules),
      omega (arith, r, w),
      rw w (omega (arith, l.invariant.3, ap length e)),
      l.invariant.4 ∙ rw (e, w, ← add_assoc a.at l.k 1) (put_cons l.w (a.at + l.k) x.result _ (omega arith)),
    )

pub returns : goal.returns
returns c =
    let a = c.args in
    let l = c.loop-k in
    let n : l.k ≡ a.n = omega arith in
    let z : lanes_from (digit_bound a.s) (digit_count a.s) l.before (a.n - l.k) a.t.now l.next ≡ []
    = rw n (lanes_none (digit_bound a.s) (digit_count a.s) l.before a.n a.t.now l.next) in
    (omega (arith, l.invariant.3, ap length z), sym (l.invariant.4 ∙ rw z (put_nil _ _)))
