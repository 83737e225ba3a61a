-- How the program reads: an argument by its first word, and an end and a depth where the reader gives a tree. No statement of what is read rests on this. Definitions only.
use Rattle.std.specs.Prelude.{ℕ, ◌+◌, max, Bool, false, cond, List, [], ◌∷◌, Option, Some, None, leb, eqb, length, drop, get_or}
use Rattle.std.proofs.Math.Option.{Option as Maybe, none, some}
use Rattle.buffers.specs.Text.{byte}
use Rattle.nesting.specs.declared.Head.{Head}
use Rattle.nesting.specs.declared.Reached.{Reached}
use Rattle.nesting.specs.Grammar.{is_bitcast, text, texts, depth, depths}
use Rattle.nesting.specs.Read.{first_word, opens, tree_of, trees_of}

-- ---- what an argument starts with

-- where the word from `at` on ends
unfoldable pub word_end : List ℕ → ℕ → ℕ
word_end s at = at + length (first_word (drop at s))

abbrev pub spelt : ℕ → List ℕ → Option Head
spelt end [] = None
spelt end (x ∷ w) = Some (Head.Spelling end)

abbrev pub head_by : Bool → List ℕ → ℕ → ℕ → Option Head
head_by first w end mark = cond (opens first w mark) (Some (Head.Call end (is_bitcast w))) (spelt end w)

unfoldable pub head_at : Bool → List ℕ → ℕ → Option Head
head_at first s at = head_by first (first_word (drop at s)) (word_end s at) (get_or s (word_end s at) 0)

-- ---- an argument from `at` on, and arguments after the mark at `at`

-- what a program gives for a tree that was read from `at` on, by where it starts and ends
abbrev pub read_as : {A R : Type 0} → (A → List ℕ) → R → (ℕ → A → ℕ → R) → ℕ → Maybe A → R
read_as text_of wrong given at none = wrong
read_as text_of wrong given at (some t) = given at t (at + length (text_of t))

-- what ends at e and is d deep
abbrev pub reached : ℕ → ℕ → Option Reached
reached e d = Some (record { end = e; depth = d })

unfoldable pub argument_at : Bool → List ℕ → ℕ → Option Reached
argument_at first s at = read_as text None (λ b t e. reached e (depth t)) at (tree_of first (drop at s))

unfoldable pub call_at : Bool → List ℕ → ℕ → Option Reached
call_at first s at = read_as texts None (λ b a e. reached e (depths a + 1)) (at + 1) (trees_of first (drop (at + 1) s))

abbrev pub deepened : Option Reached → ℕ → Option Reached
deepened None d = None
deepened (Some x) d = reached x.end (max d x.depth)

-- a call's end and depth, where an argument of depth d ends at e
unfoldable pub rest_at : List ℕ → ℕ → ℕ → Option Reached
rest_at s e d =
    cond (eqb (get_or s e 0) (byte ")")) (reached (e + 1) (d + 1))
    (cond (eqb (get_or s e 0) (byte ";")) (deepened (call_at false s e) (d + 1)) None)

-- ---- the number of a line of n bytes, by its call

abbrev pub judged_of : Option Reached → ℕ → ℕ
judged_of None n = 12
judged_of (Some x) n = cond (eqb x.end n) (cond (leb x.depth 8) 0 13) 12
