-- Calls by the number of their values, for statements over what calls give. Definitions only.
use Rattle.values.specs.declared.Kind.TheVariants.{Empty}
use Rattle.values.specs.declared.Value.{Value}
use Rattle.values.specs.Value.{empty_value}
use Rattle.calls.specs.declared.Builtin.{Builtin}
use Rattle.calls.specs.declared.Call.{Call}

abbrev pub call_one : Builtin → Value → Call
call_one f v = record { builtin = f; count = 1; target = Empty; a = v; b = empty_value; c = empty_value }

abbrev pub call_two : Builtin → Value → Value → Call
call_two f v w = record { builtin = f; count = 2; target = Empty; a = v; b = w; c = empty_value }

abbrev pub call_three : Builtin → Value → Value → Value → Call
call_three f u v w = record { builtin = f; count = 3; target = Empty; a = u; b = v; c = w }
