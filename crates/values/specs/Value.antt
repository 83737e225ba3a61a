-- Values, and when one is well formed: 01, "Values and builtins taken". Definitions only.
use Rattle.std.specs.Prelude.{ℕ, ◌+◌, ◌-◌, ◌*◌, ◌^◌, Bool, true, false, ◌&&◌, cond, List, [], ◌∷◌, ◌++◌, map, ◌≡◌, ltb, eqb, length, take, drop, get_or, replicate}
use Rattle.values.specs.declared.Scalar.{Scalar}
use Rattle.values.specs.declared.Scalar.TheVariants.{Boolean, I32, U32, F32, F16}
use Rattle.values.specs.declared.Width.{Width}
use Rattle.values.specs.declared.Width.TheVariants.{Single, Half}
use Rattle.values.specs.declared.Size.{Size}
use Rattle.values.specs.declared.Size.TheVariants.{Two, Three, Four}
use Rattle.values.specs.declared.Kind.{Kind}
use Rattle.values.specs.declared.Kind.TheVariants.{Empty, One, Vec, Mat}
use Rattle.values.specs.declared.Value.{Value}

-- ---- types

-- "bool lanes are 0 or 1, f16 lanes are below 65,536": how many bits a lane has
abbrev pub lane_bits : Scalar → ℕ
lane_bits Boolean = 1
lane_bits I32 = 32
lane_bits U32 = 32
lane_bits F32 = 32
lane_bits F16 = 16

abbrev pub size_of : Size → ℕ
size_of Two = 2
size_of Three = 3
size_of Four = 4

abbrev pub of_width : Width → Scalar
of_width Single = F32
of_width Half = F16

-- Empty is no type; what it is given here is never asked for
abbrev pub scalar_of : Kind → Scalar
scalar_of Empty = Boolean
scalar_of (One s) = s
scalar_of (Vec n s) = s
scalar_of (Mat c r w) = of_width w

abbrev pub lane_count : Kind → ℕ
lane_count Empty = 0
lane_count (One s) = 1
lane_count (Vec n s) = size_of n
lane_count (Mat c r w) = size_of c * size_of r

abbrev pub is_type : Kind → Bool
is_type Empty = false
is_type (One s) = true
is_type (Vec n s) = true
is_type (Mat c r w) = true

-- the type of that shape with another scalar; a matrix has none
abbrev pub shaped : Scalar → Kind → Kind
shaped t Empty = Empty
shaped t (One s) = One t
shaped t (Vec n s) = Vec n t
shaped t (Mat c r w) = Empty

-- every type: the scalars, their vectors by length, the matrices of f32 and of f16
abbrev pub scalars : List Scalar
scalars = Boolean ∷ I32 ∷ U32 ∷ F32 ∷ F16 ∷ []

abbrev pub sizes : List Size
sizes = Two ∷ Three ∷ Four ∷ []

abbrev pub vectors : Size → List Kind
vectors n = map (Vec n) scalars

abbrev pub matrices : Width → Size → List Kind
matrices w c = map (λ r. Mat c r w) sizes

abbrev pub kinds : List Kind
kinds =
    map One scalars ++ (vectors Two ++ (vectors Three ++ (vectors Four
    ++ (matrices Single Two ++ (matrices Single Three ++ (matrices Single Four
    ++ (matrices Half Two ++ (matrices Half Three ++ matrices Half Four))))))))

-- Each type's place in that list, counted from 1, and 0 of no type. Two types are one where their places are.
abbrev pub scalar_place : Scalar → ℕ
scalar_place Boolean = 0
scalar_place I32 = 1
scalar_place U32 = 2
scalar_place F32 = 3
scalar_place F16 = 4

abbrev pub size_place : Size → ℕ
size_place Two = 0
size_place Three = 1
size_place Four = 2

abbrev pub width_place : Width → ℕ
width_place Single = 0
width_place Half = 1

abbrev pub place : Kind → ℕ
place Empty = 0
place (One s) = 1 + scalar_place s
place (Vec n s) = 6 + 5 * size_place n + scalar_place s
place (Mat c r w) = 21 + 9 * width_place w + 3 * size_place c + size_place r

-- the type of a place, Empty where no type has it
unfoldable pub kind_at : ℕ → Kind
kind_at n = get_or (Empty ∷ kinds) n Empty

abbrev pub same_kind : Kind → Kind → Bool
same_kind k l = eqb (place k) (place l)

-- ---- lanes

-- the lanes in use
abbrev pub lanes_of : Value → List ℕ
lanes_of v = take (lane_count v.kind) v.lanes

abbrev pub lane : Value → ℕ → ℕ
lane v i = get_or v.lanes i 0

-- the value of a type with these lanes, the others 0
unfoldable pub value : Kind → List ℕ → Value
value k xs = record { kind = k; lanes = xs ++ replicate (16 - length xs) 0 }

-- "The empty value has no type and only zero lanes."
unfoldable pub empty_value : Value
empty_value = record { kind = Empty; lanes = replicate 16 0 }

-- a bool as a lane
abbrev pub flag : Bool → ℕ
flag b = cond b 1 0

abbrev pub every : (ℕ → Bool) → List ℕ → Bool
every p [] = true
every p (x ∷ xs) = p x && every p xs

-- "It is well formed when the type is one of these, bool lanes are 0 or 1, f16 lanes are below 65,536 and unused lanes are 0." A lane of 32 bits leaves the upper half unused.
unfoldable pub well_formed : Value → Bool
well_formed v =
    is_type v.kind && every (λ x. ltb x (2 ^ lane_bits (scalar_of v.kind))) (lanes_of v) && every (λ x. eqb x 0) (drop (lane_count v.kind) v.lanes)

-- a value that a record can hold, which has 16 lanes, and that is well formed
pub record Formed (v : Value) : Type 0 where
  pub good : well_formed v ≡ true
  pub lanes : length v.lanes ≡ 16

-- ---- "Vectors act lane by lane": one function on each lane of the first value, and on the others' lanes at the same place

abbrev pub zip2 : (ℕ → ℕ → ℕ) → List ℕ → List ℕ → List ℕ
zip2 f [] ys = []
zip2 f (x ∷ xs) [] = []
zip2 f (x ∷ xs) (y ∷ ys) = f x y ∷ zip2 f xs ys

abbrev pub zip3 : (ℕ → ℕ → ℕ → ℕ) → List ℕ → List ℕ → List ℕ → List ℕ
zip3 f [] ys zs = []
zip3 f (x ∷ xs) [] zs = []
zip3 f (x ∷ xs) (y ∷ ys) [] = []
zip3 f (x ∷ xs) (y ∷ ys) (z ∷ zs) = f x y z ∷ zip3 f xs ys zs

unfoldable pub lanewise : (ℕ → ℕ) → Value → Value
lanewise f v = value v.kind (map f (lanes_of v))

unfoldable pub lanewise2 : (ℕ → ℕ → ℕ) → Value → Value → Value
lanewise2 f v w = value v.kind (zip2 f (lanes_of v) w.lanes)

unfoldable pub lanewise3 : (ℕ → ℕ → ℕ → ℕ) → Value → Value → Value → Value
lanewise3 f u v w = value u.kind (zip3 f (lanes_of u) v.lanes w.lanes)
