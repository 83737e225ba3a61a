-- 02, Q-8: "The reader accepts exactly this grammar and the reading is unique." Statements only; proofs/Sound shows the first, proofs/Complete the second.
use Rattle.std.specs.Prelude.{Bool, List, ◌↔◌, ◌≡◌, ℕ}
use Rattle.std.proofs.Math.Option.{some}
use Rattle.nesting.specs.Grammar.{Tree, Line, Formed, text}
use Rattle.nesting.specs.Read.{line_tree}

-- a line is read as the tree whose text it is, and no other line is read
abbrev pub Exactly : List ℕ → Tree → Type 0
Exactly l t = (line_tree l ≡ some t) ↔ Line l t

-- two trees of one text are one
abbrev pub Unique : Tree → Tree → Type 0
Unique t u = (first : Bool) → Formed t first → Formed u first → text t ≡ text u → t ≡ u
