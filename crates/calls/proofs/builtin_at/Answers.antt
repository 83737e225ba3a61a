-- The table is the definition's list, and past its end there is no builtin. Assumes nothing.
use Prim.Native.Nat.{ℕ, ◌<◌}
use mathlib.Core.List.{List, ◌∷◌}
use mathlib.Core.Path.{◌≡◌, sym}
use lib.ListN.{length, get_or, get_or-eq_default}
use lib.Seq.{drop-cons}
use Rattle.calls.specs.declared.Builtin.{Builtin}
use Rattle.calls.specs.declared.Builtin.TheVariants.{All, Unknown}
use Rattle.calls.specs.Table.{builtins, builtin_at}
use Rattle.calls.proofs.builtin_at.Goals as goal

-- within a list it does not matter what is said to stand past its end
inside : (l : List Builtin) (i : ℕ) (a b : Builtin) → i < length l → get_or l i a ≡ get_or l i b
inside l i a b h = cc (drop-cons l i a h, drop-cons l i b h)

pub returns-then-n-lt41 : goal.returns-then-n-lt41
unfolding builtin_at
returns-then-n-lt41 c = inside (Unknown ∷ builtins) c.args.n All Unknown c.if-n-lt41.true

pub returns-else-n-lt41 : goal.returns-else-n-lt41
unfolding builtin_at
returns-else-n-lt41 c = sym (get_or-eq_default (Unknown ∷ builtins) Unknown c.if-n-lt41.false)
