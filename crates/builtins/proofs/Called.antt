-- What is known of a call of words that is not refused, by its builtin. Assumes nothing.
use Prim.Native.Nat.{ℕ}
use mathlib.Core.List.{List}
use mathlib.Core.Path.{◌≡◌}
use lib.ListN.{get_or}
use Rattle.readings.specs.declared.Reading.{Reading}
use Rattle.values.specs.Value.{kind_at}
use Rattle.words.specs.Words.{value_at}
use Rattle.calls.specs.declared.Builtin.{Builtin}
use Rattle.calls.specs.Table.{takes, builtin_at}
use Rattle.calls.specs.Refuse.{judged, refusal_of}
use Rattle.calls.specs.Words.{call_of}
use Rattle.builtins.specs.Fold.{answer_by, fold_in}
use Rattle.builtins.proofs.Folded.{folds}

module _ (w : List ℕ) (z : refusal_of (call_of w) ≡ 0) (which : Builtin) (e : builtin_at (get_or w 0 0) ≡ which) where
  pub passed : judged (takes which) (get_or w 1 0) (kind_at (get_or w 2 0)) (value_at w 3) (value_at w 20) (value_at w 37) ≡ 0
  unfolding call_of
  passed = rw e at z

  pub folded : (R : Reading) → fold_in R (call_of w) ≡ answer_by R which (kind_at (get_or w 2 0)) (value_at w 3) (value_at w 20) (value_at w 37)
  unfolding call_of
  folded R = rw e (folds R which (get_or w 1 0) (kind_at (get_or w 2 0)) (value_at w 3) (value_at w 20) (value_at w 37) passed)
