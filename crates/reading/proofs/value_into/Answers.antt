-- The length is that of a text of the type, at most 155. What is found is what the field spells, as `is_found`, `none_ended` and `none_found` say. Assumes nothing.
use Prim.Native.Nat.{ℕ, ◌+◌, ◌*◌, ◌≤◌}
use mathlib.Core.Bool.{true}
use mathlib.Core.List.{List}
use mathlib.Core.Path.{◌≡◌, ap, sym, ◌∙◌}
use native.Mathlib.Nat.{mul-le-mul, sub-zero}
use native.Mathlib.Omega.{arith}
use borrow.Author.Tests.{not-true, not-false}
use lib.ListN.{length, take, length-set}
use lib.Seq.{length-take-le}
use Rattle.values.specs.declared.Kind.{Kind}
use Rattle.values.specs.Value.{kind_at, empty_value}
use Rattle.buffers.specs.Memory.{put}
use Rattle.words.specs.Words.{words_of}
use Rattle.spelling.specs.Write.{text_length}
use Rattle.reading.specs.Program.{ends}
use Rattle.reading.proofs.Fields.{lanes_in, lanes_most, lanes_parts, ends_within, none_ended, none_found, is_found}
use Rattle.reading.proofs.WordPuts.{value_put, cleared_again, lanes_after}
use Rattle.reading.proofs.value_into.Goals as goal
use Rattle.reading.proofs.value_into.Goals.{After-digit_count, After-lanes_into, Else-not-ends_at}

-- the length that the program works out, and the lanes in a text of it
abbrev len : After-digit_count → ℕ
len d = d.type_len-start.result + d.count_at-n.result * (d.digit_count.result + 1)

abbrev kind : After-digit_count → Kind
kind d = kind_at d.type_from-p.result

abbrev read : After-lanes_into → List ℕ
read c = lanes_in (kind_at c.type_from-p.result) (take (c.type_len-start.result + c.count_at-n.result * (c.digit_count.result + 1)) c.args.t.now)

lanes_length : (d : After-digit_count) → d.count_at-n.result * (d.digit_count.result + 1) ≤ 144
lanes_length d =
    let n : d.digit_count.result + 1 ≤ 9 = omega arith in
    mul-le-mul d.count_at-n.ensures.1 n

text_length_lem : (d : After-digit_count) → len d ≡ text_length (kind d)
unfolding text_length
text_length_lem d = rw (d.digit_count.ensures.0, d.type_len-start.ensures.0, d.count_at-n.ensures.0, d.scalar_at-s.ensures)

ended : (c : Else-not-ends_at) → ends c.args.t.now (c.type_len-start.result + c.count_at-n.result * (c.digit_count.result + 1)) ≡ true
ended c = sym c.ends_at.ensures ∙ c.if-not-ends_at.false

within : (c : Else-not-ends_at) → c.type_len-start.result + c.count_at-n.result * (c.digit_count.result + 1) ≤ length c.args.t.now
within c = ends_within c.args.t.now _ (ended c)

-- the memory with the lanes
lanes_put : (c : After-lanes_into)
    → let a = c.args in
    (c.lanes_into.result ≡ length (read c)) × (c.lanes_into.new.w ≡ put (put a.w.now a.at (words_of empty_value)) (a.at + 1) (read c)) × (length (read c) ≤ 16)
lanes_put c =
    let k = kind_at c.type_from-p.result in
    let n = c.type_len-start.result + c.count_at-n.result * (c.digit_count.result + 1) in
    let e = lanes_parts c.args.t.now n k c.scalar_at-s.ensures c.count_at-n.ensures.0 c.type_len-start.ensures.0 in (
      c.lanes_into.ensures.0 ∙ ap length e,
      lanes_after _ _ (read c) c.clear.ensures c.lanes_into.ensures.1 e,
      (lanes_most k (take n c.args.t.now)).1,
    )

pub overflow_mul-len : goal.overflow_mul-len
overflow_mul-len c = record { fits = omega (arith, lanes_length (goal.at.overflow_mul-len c).After-digit_count) }

pub overflow_add-len-2 : goal.overflow_add-len-2
overflow_add-len-2 c = record { fits = omega (arith, lanes_length (goal.at.overflow_add-len-2 c).After-digit_count) }

pub returns-then-not-ends_at : goal.returns-then-not-ends_at
returns-then-not-ends_at c =
    let t = c.args.t.now in
    let e = none_ended t c.type_from-p.ensures.0 (text_length_lem (goal.at.returns-then-not-ends_at c).After-digit_count) (sym c.ends_at.ensures ∙ c.if-not-ends_at.true) in
    (λ h. absurd (omega arith), rw e c.clear.ensures)

pub lanes_into-requires : goal.lanes_into-requires
lanes_into-requires c =
    let t = c.args.t.now in (
      omega (arith, c.w-1.given, c.count_at-n.ensures.1, c.requires),
      rw (sub-zero, ← c.digit_count.ensures.0, length-take-le _ t (within (goal.at.lanes_into-requires c).Else-not-ends_at)) (omega arith),
    )

pub returns-then-lanes_into-n : goal.returns-then-lanes_into-n
returns-then-lanes_into-n c =
    let f = lanes_put (goal.at.returns-then-lanes_into-n c).After-lanes_into in
    let e = none_found c.args.t.now c.type_from-p.ensures.0 (text_length_lem (goal.at.returns-then-lanes_into-n c).After-digit_count) (rw (← f.0, ← c.count_at-n.ensures.0) c.if-lanes_into-n.true) in
    (λ h. absurd (omega arith), rw e (c.clear-then-lanes_into-n.ensures ∙ rw f.1 (cleared_again c.args.w.now c.args.at _ c.requires f.2)))

pub shape_of-w : goal.shape_of-w
shape_of-w c = length-set c.lanes_into.new.w c.args.at _ ∙ c.w-2-1.given ∙ c.w-1.given

pub returns : goal.returns
returns c =
    let f = lanes_put (goal.at.returns c).After-lanes_into in
    let e = is_found c.args.t.now c.type_from-p.ensures.0 (text_length_lem (goal.at.returns c).After-digit_count) (ended (goal.at.returns c).Else-not-ends_at) (rw (← f.0, ← c.count_at-n.ensures.0) c.if-lanes_into-n.false) in
    (e.0, rw (e.1, f.1) (value_put c.args.w.now c.args.at _ c.requires f.2 c.type_from-p.ensures.1))

pub slice_bounds-lanes_into-end : goal.slice_bounds-lanes_into-end
slice_bounds-lanes_into-end c = omega (arith, within (goal.at.slice_bounds-lanes_into-end c).Else-not-ends_at)
