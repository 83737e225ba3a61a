-- What the code does of an answer, as Written has it: the lengths that are compared with the room are those of the two texts. Assumes nothing.
use Prim.Native.Nat.{◌+◌, ◌≤◌}
use mathlib.Core.Path.{◌≡◌, sym, ◌∙◌}
use native.Mathlib.Omega.{arith}
use lib.ListN.{length, length-append}
use Rattle.buffers.proofs.Puts.{Made, made, room_left}
use Rattle.words.specs.Words.{value_at}
use Rattle.spelling.specs.Write.{text_of}
use Rattle.answers.specs.Answers.{second_text}
use Rattle.answers.proofs.Written.{refused_so, short_so, answered_so, text_there, second_there}
use Rattle.answers.proofs.put_answer.Goals as goal
use Rattle.answers.proofs.put_answer.Goals.{After-put_value-next, After-second_len, Else-out-first}

-- the lengths, once they are worked out
first_length : (c : After-second_len) → c.text_len-first.result ≡ length (text_of (value_at c.args.a.now 0))
first_length c = text_there c.args.a.now 0 c.place_at.ensures.0 c.text_len-first.ensures.0

second_length_lem : (c : After-second_len) → c.second_len.result ≡ length (second_text (value_at c.args.a.now 17))
second_length_lem c = second_there c.args.a.now 17 c.place_at-2.ensures.0 c.second_len.ensures.0

-- where both have room the first is written
both_within : (c : Else-out-first) → length (text_of (value_at c.args.a.now 0)) + length (second_text (value_at c.args.a.now 17)) ≤ length c.args.out.now
both_within c = omega (arith, text_there c.args.a.now 0 c.place_at.ensures.0 c.text_len-first.ensures.0, second_there c.args.a.now 17 c.place_at-2.ensures.0 c.second_len.ensures.0)

first_made : (c : After-put_value-next) → length (text_of (value_at c.args.a.now 0)) + length (second_text (value_at c.args.a.now 17)) ≤ length c.args.out.now → Made c.args.out.now 0 (text_of (value_at c.args.a.now 0)) c.put_value-next.result c.put_value-next.new.out
first_made c room = made c.args.out.now 0 (text_of (value_at c.args.a.now 0)) (omega arith) c.put_value-next.ensures

pub returns-then-refusal-ne0 : goal.returns-then-refusal-ne0
returns-then-refusal-ne0 c = λ x e. refused_so c.args.out.now x e.0 (λ z. omega arith)

pub returns-then-out-first : goal.returns-then-out-first
returns-then-out-first c =
    let z = c.if-refusal-ne0.false in
    λ x e. short_so c.args.out.now x (sym e.0 ∙ z) (e.1 z).0 (e.1 z).1 (omega (arith, first_length (goal.at.returns-then-out-first c).After-second_len, second_length_lem (goal.at.returns-then-out-first c).After-second_len))

pub put_second-len-requires : goal.put_second-len-requires
put_second-len-requires c =
    let v = text_of (value_at c.args.a.now 0) in
    let u = second_text (value_at c.args.a.now 17) in
    room_left c.args.out.now 0 v u (omega (arith, both_within (goal.at.put_second-len-requires c).Else-out-first, length-append v u)) (first_made (goal.at.put_second-len-requires c).After-put_value-next (both_within (goal.at.put_second-len-requires c).Else-out-first))

pub returns : goal.returns
returns c =
    let z = c.if-refusal-ne0.false in
    λ x e. answered_so c.args.out.now x (sym e.0 ∙ z) (e.1 z).0 (e.1 z).1 (both_within (goal.at.returns c).Else-out-first) (first_made (goal.at.returns c).After-put_value-next (both_within (goal.at.returns c).Else-out-first)) c.put_second-len.ensures
