-- How the program folds: what it gives for an argument and for arguments, and where they end. No statement of what a line gives rests on this. Definitions only.
use Rattle.std.specs.Prelude.{ℕ, ◌+◌, Bool, false, cond, List, Option, Some, None, eqb, drop, get_or}
use Rattle.readings.specs.declared.Reading.{Reading}
use Rattle.buffers.specs.Text.{byte}
use Rattle.nesting.specs.Grammar.{text, texts}
use Rattle.nesting.specs.Read.{tree_of, trees_of}
use Rattle.nesting.specs.Program.{read_as}
use Rattle.nested.specs.declared.Argument.{Argument}
use Rattle.nested.specs.declared.Arguments.{Arguments}
use Rattle.nested.specs.declared.Ended.{Ended}
use Rattle.nested.specs.declared.Folded.{Folded}
use Rattle.nested.specs.Nested.{handed, judged, alone, joined, argument_of, arguments_of}

-- what was read and ends at e
abbrev pub ended : {A : Type 0} → A → ℕ → Option (Ended A)
ended x e = Some (record { given = x; end = e })

-- what the call of w gives as an argument, and as the outermost, and an argument before others
abbrev pub called_of : Reading → List ℕ → Option (Ended Arguments) → Option (Ended Argument)
called_of r w None = None
called_of r w (Some x) = ended (handed w (judged r w x.given)) x.end

abbrev pub outermost_of : Reading → List ℕ → Option (Ended Arguments) → Option Folded
outermost_of r w None = None
outermost_of r w (Some x) = Some (judged r w x.given)

abbrev pub joined_of : Argument → Option (Ended Arguments) → Option (Ended Arguments)
joined_of x None = None
joined_of x (Some r) = ended (joined x r.given) r.end

-- an argument from `at` on, arguments after the mark at `at`, and arguments from the end of one on
unfoldable pub one_at : Reading → Bool → List ℕ → ℕ → Option (Ended Argument)
one_at r first s at = read_as text None (λ b t e. ended (argument_of r first b t) e) at (tree_of first (drop at s))

unfoldable pub all_at : Reading → Bool → List ℕ → ℕ → Option (Ended Arguments)
all_at r first s at = read_as texts None (λ b a e. ended (arguments_of r first b a) e) (at + 1) (trees_of first (drop (at + 1) s))

unfoldable pub rest_at : Reading → List ℕ → Argument → ℕ → Option (Ended Arguments)
rest_at r s x e =
    cond (eqb (get_or s e 0) (byte ")")) (ended (alone x) (e + 1))
    (cond (eqb (get_or s e 0) (byte ";")) (joined_of x (all_at r false s e)) None)
