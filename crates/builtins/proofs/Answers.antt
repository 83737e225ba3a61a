-- A call whose values its row takes is answered by its builtin: of one value, of two, and of three. Assumes nothing.
use mathlib.Core.Bool.{true}
use mathlib.Core.Path.{◌≡◌}
use Rattle.readings.specs.declared.Reading.{Reading}
use Rattle.values.specs.declared.Kind.{Kind}
use Rattle.values.specs.declared.Kind.TheVariants.{Empty}
use Rattle.values.specs.declared.Value.{Value}
use Rattle.values.specs.Value.{empty_value, well_formed}
use Rattle.calls.specs.declared.Builtin.{Builtin}
use Rattle.calls.specs.Table.{Taken, Together, Row, Unary, Binary, Ternary, taken, together, takes}
use Rattle.calls.specs.Refuse.{judged}
use Rattle.builtins.specs.Fold.{answer_by, fold_in}
use Rattle.builtins.specs.Calls.{call_one, call_two, call_three}
use Rattle.builtins.proofs.Folded.{folds}

one_passes : (row : Row) (p : Taken) (t : Kind) (a b c : Value) → row ≡ Unary p → well_formed a ≡ true → taken p a.kind ≡ true → judged row 1 t a b c ≡ 0
unfolding judged
one_passes row p t a b c e w k = rw (e, w, k)

two_pass : (row : Row) (p q : Taken) (m : Together) (t : Kind) (a b c : Value) → row ≡ Binary p q m → well_formed a ≡ true → well_formed b ≡ true → taken p a.kind ≡ true → taken q b.kind ≡ true
    → together m a.kind b.kind a.kind ≡ true → judged row 2 t a b c ≡ 0
unfolding judged
two_pass row p q m t a b c e fa fb ta tb g = rw (e, fa, fb, ta, tb, g)

three_pass : (row : Row) (p q s : Taken) (m : Together) (t : Kind) (a b c : Value) → row ≡ Ternary p q s m → well_formed a ≡ true → well_formed b ≡ true → well_formed c ≡ true
    → taken p a.kind ≡ true → taken q b.kind ≡ true → taken s c.kind ≡ true → together m a.kind b.kind c.kind ≡ true → judged row 3 t a b c ≡ 0
unfolding judged
three_pass row p q s m t a b c e fa fb fc ta tb tc g = rw (e, fa, fb, fc, ta, tb, tc, g)

module _ (R : Reading) (f : Builtin) where
  pub answers : (p : Taken) (v : Value) → takes f ≡ Unary p → well_formed v ≡ true → taken p v.kind ≡ true → fold_in R (call_one f v) ≡ answer_by R f Empty v empty_value empty_value
  answers p v e w k = folds R f 1 Empty v empty_value empty_value (one_passes (takes f) p Empty v empty_value empty_value e w k)

  pub answers_two : (p q : Taken) (m : Together) (a b : Value) → takes f ≡ Binary p q m → well_formed a ≡ true → well_formed b ≡ true → taken p a.kind ≡ true → taken q b.kind ≡ true
      → together m a.kind b.kind a.kind ≡ true → fold_in R (call_two f a b) ≡ answer_by R f Empty a b empty_value
  answers_two p q m a b e fa fb ta tb g = folds R f 2 Empty a b empty_value (two_pass (takes f) p q m Empty a b empty_value e fa fb ta tb g)

  pub answers_three : (p q s : Taken) (m : Together) (a b c : Value) → takes f ≡ Ternary p q s m → well_formed a ≡ true → well_formed b ≡ true → well_formed c ≡ true
      → taken p a.kind ≡ true → taken q b.kind ≡ true → taken s c.kind ≡ true → together m a.kind b.kind c.kind ≡ true → fold_in R (call_three f a b c) ≡ answer_by R f Empty a b c
  answers_three p q s m a b c e fa fb fc ta tb tc g = folds R f 3 Empty a b c (three_pass (takes f) p q s m Empty a b c e fa fb fc ta tb tc g)
