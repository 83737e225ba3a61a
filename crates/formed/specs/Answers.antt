-- What an answered call gives is well formed, as a statement over `fold_in`. Definitions only.
use Rattle.std.specs.Prelude.{◌≤◌, ◌≡◌, ◌⊎◌, true, length}
use Rattle.readings.specs.declared.Reading.{Reading}
use Rattle.values.specs.Value.{shaped, empty_value, Formed}
use Rattle.values.specs.declared.Scalar.TheVariants.{I32}
use Rattle.values.specs.declared.Value.{Value}
use Rattle.calls.specs.Table.{Floats, taken}
use Rattle.calls.specs.declared.Call.{Call}
use Rattle.builtins.specs.declared.Answer.{Answer}
use Rattle.builtins.specs.Fold.{fold_in}

-- "a frexp pair (a float value and i32s in its shape)"
pub record Pair (v w : Value) : Type 0 where
  pub float : taken Floats v.kind ≡ true
  pub shape : w.kind ≡ shaped I32 v.kind
  pub second : Formed w

-- the first value is well formed; the second is empty, or makes a pair with it; the loss is one of Q-7's numbers
pub record AnswerFormed (a : Answer) : Type 0 where
  pub first : Formed a.first
  pub second : (a.second ≡ empty_value) ⊎ Pair a.first a.second
  pub loss : a.loss ≤ 2

-- a call as a record holds it: 16 lanes each
pub record Held (call : Call) : Type 0 where
  pub a : length call.a.lanes ≡ 16
  pub b : length call.b.lanes ≡ 16
  pub c : length call.c.lanes ≡ 16

abbrev pub AnswersFormed : Type 0
AnswersFormed = (r : Reading) (c : Call) → Held c → (fold_in r c).refusal ≡ 0 → AnswerFormed (fold_in r c)
