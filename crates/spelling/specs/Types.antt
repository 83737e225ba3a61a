-- How types are spelled, and which type a spelling spells: 01, "Lines": "Types are spelled as in the text without spaces (`mat2x3<f32>`)." Definitions only.
use Rattle.std.specs.Prelude.{ℕ, List, [], ◌∷◌, ◌++◌}
use Rattle.values.specs.Value.{of_width, kinds}
use Rattle.values.specs.declared.Scalar.{Scalar}
use Rattle.values.specs.declared.Scalar.TheVariants.{Boolean, I32, U32, F32, F16}
use Rattle.values.specs.declared.Size.{Size}
use Rattle.values.specs.declared.Size.TheVariants.{Two, Three, Four}
use Rattle.values.specs.declared.Kind.{Kind}
use Rattle.values.specs.declared.Kind.TheVariants.{Empty, One, Vec, Mat}
use Rattle.buffers.specs.Text.{byte, bytes, first_spelled}

abbrev pub scalar_text : Scalar → List ℕ
scalar_text Boolean = bytes "bool"
scalar_text I32 = bytes "i32"
scalar_text U32 = bytes "u32"
scalar_text F32 = bytes "f32"
scalar_text F16 = bytes "f16"

abbrev pub size_byte : Size → ℕ
size_byte Two = byte "2"
size_byte Three = byte "3"
size_byte Four = byte "4"

abbrev pub size_text : Size → List ℕ
size_text n = size_byte n ∷ []

-- how a type is spelled
abbrev pub spelled : Kind → List ℕ
spelled Empty = []
spelled (One s) = scalar_text s
spelled (Vec n s) = bytes "vec" ++ size_text n ++ bytes "<" ++ scalar_text s ++ bytes ">"
spelled (Mat c r w) = bytes "mat" ++ size_text c ++ bytes "x" ++ size_text r ++ bytes "<" ++ scalar_text (of_width w) ++ bytes ">"

-- the type that a spelling spells, Empty where it spells none
unfoldable pub kind_of : List ℕ → Kind
kind_of s = first_spelled spelled Empty kinds s
