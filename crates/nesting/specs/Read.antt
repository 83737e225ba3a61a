-- The reader of Q-8's grammar, and what it refuses. Definitions only.
use Rattle.std.specs.Prelude.{ℕ, zero, suc, ◌+◌, Bool, false, not, cond, ◌&&◌, List, [], ◌∷◌, leb, eqb, length, drop, get_or}
use Rattle.std.proofs.Math.Option.{Option, none, some}
use Rattle.buffers.specs.Text.{byte}
use Rattle.nesting.specs.Grammar.{plain, is_name, is_bitcast, Tree, Trees, spelling, call, last, next, text, depth, is_call}

-- ---- an argument

-- the longest front that has no tab, semicolon or round bracket
unfoldable pub first_word : List ℕ → List ℕ
first_word [] = []
first_word (x ∷ l) = cond (plain x) (x ∷ first_word l) []

-- of l, which starts with w: the byte after w, and what follows that byte
abbrev pub mark_after : List ℕ → List ℕ → ℕ
mark_after w l = get_or l (length w) 0

abbrev pub rest_after : List ℕ → List ℕ → List ℕ
rest_after w l = drop (length w + 1) l

-- a name with an opening bracket after it, where a call may stand
unfoldable pub opens : Bool → List ℕ → ℕ → Bool
opens first w mark = not first && is_name w && eqb mark (byte "(")

abbrev pub a_spelling : List ℕ → Option Tree
a_spelling [] = none
a_spelling (x ∷ w) = some (spelling (x ∷ w))

abbrev pub a_call : List ℕ → Option Trees → Option Tree
a_call w none = none
a_call w (some a) = some (call w a)

-- the argument that l starts with, w being its first word; `more` reads arguments
abbrev pub argument_by : (Bool → List ℕ → Option Trees) → Bool → List ℕ → List ℕ → Option Tree
argument_by more first l w = cond (opens first w (mark_after w l)) (a_call w (more (is_bitcast w) (rest_after w l))) (a_spelling w)

-- ---- arguments, and the bracket that closes them

abbrev pub and_next : Tree → Option Trees → Option Trees
and_next t none = none
and_next t (some a) = some (next t a)

-- those that start with t, by the byte after it
abbrev pub after : Tree → ℕ → Option Trees → Option Trees
after t mark others = cond (eqb mark (byte ")")) (some (last t)) (cond (eqb mark (byte ";")) (and_next t others) none)

abbrev pub arguments_by : (Bool → List ℕ → Option Trees) → List ℕ → Option Tree → Option Trees
arguments_by more l none = none
arguments_by more l (some t) = after t (mark_after (text t) l) (more false (rest_after (text t) l))

-- what l starts with; n is more than its bytes
unfoldable pub trees_in : ℕ → Bool → List ℕ → Option Trees
trees_in zero first l = none
trees_in (suc n) first l = arguments_by (λ b k. trees_in n b k) l (argument_by (λ b k. trees_in n b k) first l (first_word l))

unfoldable pub trees_of : Bool → List ℕ → Option Trees
trees_of first l = trees_in (suc (length l)) first l

unfoldable pub tree_of : Bool → List ℕ → Option Tree
tree_of first l = argument_by trees_of first l (first_word l)

-- ---- a line: one call and nothing after it

abbrev pub whole_call : List ℕ → Option Tree → Option Tree
whole_call l none = none
whole_call l (some t) = cond (is_call t && eqb (length (text t)) (length l)) (some t) none

unfoldable pub line_tree : List ℕ → Option Tree
line_tree l = whole_call l (tree_of false l)

-- "Calls nest at most 8 deep"; "Refusals: 12 grammar, 13 depth, in that order"
abbrev pub refusal_by : Option Tree → ℕ
refusal_by none = 12
refusal_by (some t) = cond (leb (depth t) 8) 0 13

unfoldable pub refusal_of : List ℕ → ℕ
refusal_of l = refusal_by (line_tree l)
