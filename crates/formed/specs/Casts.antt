-- bitcast there and back is the value again, as a statement over `fold_in`, so that it is about what a call gives. Definitions only.
use Rattle.std.specs.Prelude.{◌≡◌, length}
use Rattle.readings.specs.declared.Reading.{Reading}
use Rattle.values.specs.declared.Kind.{Kind}
use Rattle.values.specs.declared.Value.{Value}
use Rattle.values.specs.Value.{empty_value}
use Rattle.calls.specs.declared.Builtin.TheVariants.{Bitcast}
use Rattle.calls.specs.declared.Call.{Call}
use Rattle.builtins.specs.declared.Answer.{Answer}
use Rattle.builtins.specs.Fold.{answered, fold_in}

-- a call of bitcast: "bitcast's type field counts as one"
abbrev pub call_cast : Kind → Value → Call
call_cast t v = record { builtin = Bitcast; count = 2; target = t; a = v; b = empty_value; c = empty_value }

abbrev pub casting : Reading → Kind → Value → Answer
casting r t v = fold_in r (call_cast t v)

-- Of a value as a record holds it, of 16 lanes: where a cast of it is answered, the cast of that to the value's own type is answered with the value.
abbrev pub ThereAndBack : Type 0
ThereAndBack = (r : Reading) (t : Kind) (v : Value) → length v.lanes ≡ 16 → (casting r t v).refusal ≡ 0 → casting r v.kind (casting r t v).first ≡ answered v
