-- How the program judges a call: by the shape of its row and one set of types. No statement of what is refused rests on this. Definitions only.
use Rattle.std.specs.Prelude.{ℕ, ◌≤◌, ◌<◌, Bool, true, false, ◌&&◌, ◌||◌, List, ◌≡◌, eqb, get_or}
use Rattle.values.specs.declared.Scalar.TheVariants.{Boolean, I32}
use Rattle.values.specs.declared.Kind.{Kind}
use Rattle.values.specs.declared.Kind.TheVariants.{One}
use Rattle.values.specs.declared.Value.{Value}
use Rattle.values.specs.Value.{is_type, shaped, place, kind_at, same_kind, well_formed}
use Rattle.places.specs.Program.{member, set_of}
use Rattle.words.specs.Words.{value_at}
use Rattle.calls.specs.declared.Builtin.{Builtin}
use Rattle.calls.specs.declared.table.Entry.{Entry}
use Rattle.calls.specs.declared.table.Shape.{Shape}
use Rattle.calls.specs.declared.table.Shape.TheVariants.{Unlisted, OneValue, TwoAlike, ThreeAlike, Selecting, Scaling, Casting}
use Rattle.calls.specs.Table.{Taken, I32s, Together, OneType, Selectable, SameShape, Row, Absent, Unary, Binary, Ternary, Cast, taken, together, takes, builtin_at}
use Rattle.calls.specs.Refuse.{byte_size, first_of}

-- ---- of a row; the table has none of the forms that are Unlisted here

abbrev pub shape2 : Together → Shape
shape2 OneType = TwoAlike
shape2 Selectable = Unlisted
shape2 SameShape = Scaling

abbrev pub shape3 : Together → Shape
shape3 OneType = ThreeAlike
shape3 Selectable = Selecting
shape3 SameShape = Unlisted

abbrev pub shape_of : Row → Shape
shape_of Absent = Unlisted
shape_of (Unary p) = OneValue
shape_of (Binary p q m) = shape2 m
shape_of (Ternary p q r m) = shape3 m
shape_of (Cast p) = Casting

-- the types of the first value, but of a choice those of the condition
abbrev pub third : Together → Taken → Taken → Taken
third OneType p r = p
third Selectable p r = r
third SameShape p r = p

abbrev pub types_of : Row → ℕ
types_of Absent = 0
types_of (Unary p) = set_of (taken p)
types_of (Binary p q m) = set_of (taken p)
types_of (Ternary p q r m) = set_of (taken (third m p r))
types_of (Cast p) = set_of (taken p)

-- both, of a builtin's row
abbrev pub entry_of : Builtin → Entry
entry_of b = record { shape = shape_of (takes b); set = types_of (takes b) }

-- ---- judged by them

abbrev pub has : ℕ → Kind → Bool
has set k = member set (place k)

abbrev pub judged_as : Shape → ℕ → ℕ → Kind → Value → Value → Value → ℕ
judged_as Unlisted set n t a b c = 1
judged_as OneValue set n t a b c = first_of true (eqb n 1) (well_formed a) (has set a.kind) true true
judged_as TwoAlike set n t a b c =
    first_of true (eqb n 2) (well_formed a && well_formed b) (has set a.kind && has set b.kind) (same_kind a.kind b.kind) true
judged_as ThreeAlike set n t a b c =
    first_of true (eqb n 3) (well_formed a && well_formed b && well_formed c) (has set a.kind && has set b.kind && has set c.kind)
    (same_kind a.kind b.kind && same_kind a.kind c.kind) true
judged_as Selecting set n t a b c =
    first_of true (eqb n 3) (well_formed a && well_formed b && well_formed c) (has set c.kind) (together Selectable a.kind b.kind c.kind) true
judged_as Scaling set n t a b c =
    first_of true (eqb n 2) (well_formed a && well_formed b) (has set a.kind && taken I32s b.kind) (same_kind b.kind (shaped I32 a.kind)) true
judged_as Casting set n t a b c =
    first_of true (eqb n 2) (is_type t && well_formed a) (has set t && has set a.kind) true (eqb (byte_size t) (byte_size a.kind))

-- of the words of a call
abbrev pub judged_in : Shape → ℕ → ℕ → List ℕ → ℕ
judged_in s set n w = judged_as s set n (kind_at (get_or w 2 0)) (value_at w 3) (value_at w 20) (value_at w 37)

-- ---- what an arm of the fold tests: the first value is of the row's types, and the others follow it

-- of the type, well formed
abbrev pub is_of : Value → Kind → Bool
is_of v k = well_formed v && same_kind v.kind k

-- a condition that chooses among values of the type
abbrev pub chooses : ℕ → Value → Kind → Bool
chooses set c k = well_formed c && (has set c.kind && (same_kind c.kind (One Boolean) || same_kind c.kind (shaped Boolean k)))

-- of n arguments and the type field t; that a is well formed is tested before
abbrev pub passes_as : Shape → ℕ → ℕ → Kind → Value → Value → Value → Bool
passes_as Unlisted set n t a b c = false
passes_as OneValue set n t a b c = eqb n 1 && has set a.kind
passes_as TwoAlike set n t a b c = eqb n 2 && (has set a.kind && is_of b a.kind)
passes_as ThreeAlike set n t a b c = eqb n 3 && (has set a.kind && (is_of b a.kind && is_of c a.kind))
passes_as Selecting set n t a b c = eqb n 3 && (is_of b a.kind && chooses set c a.kind)
passes_as Scaling set n t a b c = eqb n 2 && (has set a.kind && is_of b (shaped I32 a.kind))
passes_as Casting set n t a b c = eqb n 2 && (has set a.kind && (has set t && eqb (byte_size t) (byte_size a.kind)))

-- the first value of a call of words, as an arm is handed it: a scalar or a vector, well formed, its type by its place
pub record First (w : List ℕ) (p : ℕ) : Type 0 where
  pub formed : well_formed (value_at w 3) ≡ true
  pub type : p ≡ place (value_at w 3).kind
  pub known : 0 < p
  pub within : p ≤ 20

-- and a matrix
pub record FirstMatrix (w : List ℕ) (p : ℕ) : Type 0 where
  pub formed : well_formed (value_at w 3) ≡ true
  pub type : p ≡ place (value_at w 3).kind
  pub over : 20 < p
  pub within : p < 39

-- of a call of words
unfoldable pub passes_in : List ℕ → Bool
passes_in w =
    well_formed (value_at w 3)
    && passes_as (shape_of (takes (builtin_at (get_or w 0 0)))) (types_of (takes (builtin_at (get_or w 0 0)))) (get_or w 1 0) (kind_at (get_or w 2 0)) (value_at w 3) (value_at w 20) (value_at w 37)

-- ---- what a builtin may rely on in a call that is not refused, by the form of its row

pub record Passed (p : Taken) (a : Value) : Type 0 where
  pub formed : well_formed a ≡ true
  pub alone : taken p a.kind ≡ true

pub record Passed2 (p q : Taken) (m : Together) (a b : Value) : Type 0 where
  pub first : Passed p a
  pub second : Passed q b
  pub joint : together m a.kind b.kind a.kind ≡ true

pub record Passed3 (p q r : Taken) (m : Together) (a b c : Value) : Type 0 where
  pub first : Passed p a
  pub second : Passed q b
  pub third : Passed r c
  pub joint : together m a.kind b.kind c.kind ≡ true

pub record PassedCast (p : Taken) (t : Kind) (a : Value) : Type 0 where
  pub type : is_type t ≡ true
  pub target : taken p t ≡ true
  pub value : Passed p a
  pub size : byte_size t ≡ byte_size a.kind
