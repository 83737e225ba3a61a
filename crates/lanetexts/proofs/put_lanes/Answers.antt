-- The invariant: writing all lanes comes to writing those from k on, from where the turn stands. Assumes nothing.
use borrow.Author.Rules.{rules}
use Prim.Native.Nat.{◌-◌}
use native.Mathlib.Omega.{arith}
use mathlib.Core.Path.{refl, ap, sym, ◌∙◌}
use lib.ListN.{length, take}
use lib.Seq.{length-take-le, get_or-take}
use Rattle.buffers.proofs.Puts.{put_nil}
use Rattle.lanetexts.proofs.LanePuts.{lane_room, lane_put, lanes_end}
use Rattle.lanetexts.proofs.put_lanes.Goals as goal

pub loop-k-init : goal.loop-k-init
loop-k-init c = (search rules, refl, refl, refl)

pub put_lane-next-requires : goal.put_lane-next-requires
put_lane-next-requires c =
    let a = c.args in
    let l = c.loop-k in
    let e = length-take-le a.n a.lanes.now (omega arith) in
    let r = lane_room (take a.n a.lanes.now) l.k l.before a.w (omega arith) in
    (omega (arith, r), search rules)

pub loop-k-preserved : goal.loop-k-preserved
loop-k-preserved c =
    let a = c.args in
    let l = c.loop-k in
    let q = c.put_lane-next.ensures in
    let e = length-take-le a.n a.lanes.now (omega arith) in
    let r = lane_room (take a.n a.lanes.now) l.k l.before a.w (omega arith) in (
      search rules,
      search rules,
      omega (arith, r),
      l.invariant.3
          ∙ lane_put (take a.n a.lanes.now) l.k l.before a.w (omega arith) l.out l.next (omega (arith, r)) (sym (get_or-take a.n a.lanes.now l.k 0 (omega arith))) q.1 q.0,
    )

pub returns : goal.returns
returns c =
    let a = c.args in
    let l = c.loop-k in
    let e = length-take-le a.n a.lanes.now (omega arith) in
    let z = lanes_end (take a.n a.lanes.now) l.k l.before a.w (omega arith) in
    (omega (arith, ap length z), sym (l.invariant.3 ∙ rw z (put_nil l.out l.next)))
