-- The word is as long as the bytes that are plain. Assumes nothing.
use Rattle.std.proofs.Common.{◌≡◌, ℕ, ◌+◌, ◌-◌, ◌≤◌, List, arith, ap, sym, ◌∙◌, length, take, drop, length-drop}
use Rattle.std.proofs.Math.Seq.{take-length}
use Rattle.std.specs.List.{prefix_len}
use Rattle.nesting.specs.Grammar.{plain}
use Rattle.nesting.specs.Read.{first_word}
use Rattle.nesting.specs.Program.{word_end}
use Rattle.nesting.proofs.Words.{first_word_taken, word_within}
use Rattle.nesting.proofs.word_end.Goals as goal
use Rattle.nesting.proofs.word_end.Goals.{After-word_length}

of_rest : (s : List ℕ) (at n : ℕ) → n ≡ prefix_len plain (take (length s - at) (drop at s)) → n ≡ length (first_word (drop at s))
of_rest s at n e = let z = length-drop at s in e ∙ rw (← z, take-length (drop at s)) (sym (first_word_taken (drop at s)))

within : (c : After-word_length) → c.args.at + c.word_length.result ≤ length c.args.s.now
within c =
    let s = c.args.s.now in
    omega (arith, of_rest s c.args.at c.word_length.result c.word_length.ensures, word_within (drop c.args.at s), length-drop c.args.at s)

pub overflow_add-result : goal.overflow_add-result
overflow_add-result c = omega (arith, within c)

pub returns : goal.returns
unfolding word_end
returns c = (ap (λ n. c.args.at + n) (of_rest c.args.s.now c.args.at _ c.word_length.ensures), omega arith, within c)
