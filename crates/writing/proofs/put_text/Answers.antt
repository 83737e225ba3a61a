-- The write of the type and the write of the lanes after it are one write. Assumes nothing.
use Prim.Native.Nat.{ℕ, ◌+◌, ◌-◌, ◌<◌}
use mathlib.Core.List.{List, ◌++◌}
use lib.ListN.{take, drop}
use mathlib.Core.Path.{◌≡◌, sym, ◌∙◌}
use native.Mathlib.Omega.{arith}
use Rattle.values.specs.Value.{kind_at}
use Rattle.words.specs.Words.{value_at}
use Rattle.buffers.proofs.Puts.{put_nil, both_made, room_left}
use Rattle.spelling.specs.Types.{spelled}
use Rattle.spelling.specs.Write.{lanes_text, text_of, text_length}
use Rattle.writing.proofs.ValueTexts.{no_text, length_by_place, words_there, part_length, text_words}
use Rattle.writing.proofs.put_text.Goals as goal
use Rattle.writing.proofs.put_text.Goals.{After-count_at, Else-p-eq0}

some : (c : Else-p-eq0) → 0 < c.args.p
some c = omega arith

-- the text, by its parts
abbrev lanes : After-count_at → List ℕ
lanes c =
    let a = c.args in
    lanes_text 58 c.digit_count-digits.result (take c.count_at.result (take (a.from + 17 - (a.from + 1)) (drop (a.from + 1) a.w.now)))

text : (c : After-count_at) → 0 < c.args.p → let a = c.args in text_of (value_at a.w.now a.from) ≡ spelled (kind_at a.p) ++ lanes c
text c some =
    text_words c.args.w.now c.args.from c.requires.0 some c.count_at.ensures.0 c.scalar_at.ensures c.digit_count-digits.ensures.0

pub returns-then-p-eq0 : goal.returns-then-p-eq0
returns-then-p-eq0 c =
    let e = no_text (value_at c.args.w.now c.args.from) (sym c.requires.0 ∙ c.if-p-eq0.true) in
    (rw e (omega arith), rw e (sym (put_nil c.args.out.now c.args.at)))

pub put_type-next-requires : goal.put_type-next-requires
unfolding text_length
put_type-next-requires c =
    (some (goal.at.put_type-next-requires c).Else-p-eq0, c.requires.1, omega (arith, c.requires.3, length_by_place c.args.w.now c.args.from c.requires.0))

pub put_lanes-requires : goal.put_lanes-requires
put_lanes-requires c =
    let a = c.args in
    let there = words_there a.w.now a.from (rw c.requires.0 at (some (goal.at.put_lanes-requires c).Else-p-eq0)) in (
      room_left a.out.now a.at (spelled (kind_at a.p)) (lanes (goal.at.put_lanes-requires c).After-count_at) (rw (text (goal.at.put_lanes-requires c).After-count_at (some (goal.at.put_lanes-requires c).Else-p-eq0)) at c.requires.3) c.put_type-next.ensures,
      omega (arith, part_length a.w.now a.from there, c.count_at.ensures.1),
      omega (arith, c.digit_count-digits.ensures.1),
    )

pub returns : goal.returns
returns c =
    let a = c.args in
    let t = text (goal.at.returns c).After-count_at (some (goal.at.returns c).Else-p-eq0) in
    rw t (both_made a.out.now a.at (spelled (kind_at a.p)) _ (rw t at c.requires.3) c.put_type-next.ensures c.put_lanes.ensures)

pub slice_bounds-put_lanes-end : goal.slice_bounds-put_lanes-end
slice_bounds-put_lanes-end c = omega (arith, words_there c.args.w.now c.args.from (rw c.requires.0 at (some (goal.at.slice_bounds-put_lanes-end c).Else-p-eq0)))
