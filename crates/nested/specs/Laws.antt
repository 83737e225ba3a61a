-- What holds of a line's refusal, its place and its answer: 02, Q-2 and Q-8. Statements only; proofs/Sounds shows the first of nested lines, proofs/SpellOut the second.
use Rattle.std.specs.Prelude.{ℕ, ◌+◌, ◌<◌, ◌≤◌, Bool, false, List, ◌≡◌, length}
use Rattle.readings.specs.declared.Reading.{Reading}
use Rattle.formed.specs.Answers.{AnswerFormed}
use Rattle.spelling.specs.Write.{text_of}
use Rattle.nesting.specs.Grammar.{Tree, Trees, spelling, call, last, next, text, is_bitcast, Formeds}
use Rattle.nested.specs.declared.Folded.{Folded}
use Rattle.nested.specs.Nested.{argument_of, arguments_of, folded_call}

-- a refusal n and its place p: 3 is never told; 9 to 11, and no others, have a place, and none is past k
pub record Placed (k n p : ℕ) : Type 0 where
  pub not_3 : n ≡ 3 → ⊥
  pub most : n ≤ 13
  pub placed : 9 ≤ n → n ≤ 11 → 0 < p
  pub below : n < 9 → p ≡ 0
  pub above : 11 < n → p ≡ 0
  pub within : p ≤ k

-- and what is answered is well formed
pub record Sound (k : ℕ) (x : Folded) : Type 0 where
  pub told : Placed k x.answer.refusal x.place
  pub formed : x.answer.refusal ≡ 0 → AnswerFormed x.answer

-- ---- each call among the arguments as the spelling of what it gives

abbrev pub spelled_one : Reading → Bool → ℕ → Tree → Tree
spelled_one r cast at (spelling w) = spelling w
spelled_one r cast at (call w a) = spelling (text_of (argument_of r cast at (call w a)).value)

unfoldable pub spelled_out : Reading → Bool → ℕ → Trees → Trees
spelled_out r cast at (last t) = last (spelled_one r cast at t)
spelled_out r cast at (next t a) = next (spelled_one r cast at t) (spelled_out r false (at + length (text t) + 1) a)

-- where none of them is refused, a call gives what it gives with these: "Calls among the arguments are folded .., then the call itself is judged"
abbrev pub SpelledOut : Reading → List ℕ → Trees → Type 0
SpelledOut r w a =
    Formeds a (is_bitcast w) → (arguments_of r (is_bitcast w) (length w + 1) a).refused.refusal ≡ 0
    → (folded_call r (call w (spelled_out r (is_bitcast w) (length w + 1) a))).answer ≡ (folded_call r (call w a)).answer
