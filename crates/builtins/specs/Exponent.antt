-- frexp's two values. Definitions only.
use Rattle.std.specs.Prelude.{map}
use Rattle.values.specs.declared.Scalar.TheVariants.{I32}
use Rattle.values.specs.declared.Value.{Value}
use Rattle.values.specs.Value.{scalar_of, shaped, lanes_of, value, lanewise}
use Rattle.exponent.specs.Exponent.{fraction_lane, exponent_lane}

unfoldable pub fraction_of : Value → Value
fraction_of v = lanewise (fraction_lane (scalar_of v.kind)) v

-- "i32s in its shape"
unfoldable pub exponent_of : Value → Value
exponent_of v = value (shaped I32 v.kind) (map (exponent_lane (scalar_of v.kind)) (lanes_of v))
