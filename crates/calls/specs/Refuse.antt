-- Which calls are refused, and by which number: 01, "What a refused call gives". Definitions only.
use Rattle.std.specs.Prelude.{ℕ, ◌*◌, ◌/◌, Bool, true, false, not, cond, ◌&&◌, eqb}
use Rattle.values.specs.declared.Kind.{Kind}
use Rattle.values.specs.declared.Value.{Value}
use Rattle.values.specs.Value.{lane_bits, scalar_of, lane_count, is_type, well_formed}
use Rattle.calls.specs.declared.Call.{Call}
use Rattle.calls.specs.Table.{Row, Absent, Unary, Binary, Ternary, Cast, taken, together, takes}

-- 1 "the builtin is not in the table"
abbrev pub in_table : Row → Bool
in_table Absent = false
in_table (Unary p) = true
in_table (Binary p q m) = true
in_table (Ternary p q r m) = true
in_table (Cast p) = true

-- 2 "the number of arguments is wrong; bitcast's type field counts as one"
abbrev pub arity : Row → ℕ
arity Absent = 0
arity (Unary p) = 1
arity (Binary p q m) = 2
arity (Ternary p q r m) = 3
arity (Cast p) = 2

-- 3 "a value is not well formed, .. or bitcast's type is none": of the type field t and the slots a, b, c
abbrev pub formed : Row → Kind → Value → Value → Value → Bool
formed Absent t a b c = true
formed (Unary p) t a b c = well_formed a
formed (Binary p q m) t a b c = well_formed a && well_formed b
formed (Ternary p q r m) t a b c = well_formed a && well_formed b && well_formed c
formed (Cast p) t a b c = is_type t && well_formed a

-- 4 "an argument alone, or bitcast's target, is of a type not taken in its place": from here on of the types
abbrev pub taken_alone : Row → Kind → Kind → Kind → Kind → Bool
taken_alone Absent t a b c = true
taken_alone (Unary p) t a b c = taken p a
taken_alone (Binary p q m) t a b c = taken p a && taken q b
taken_alone (Ternary p q r m) t a b c = taken p a && taken q b && taken r c
taken_alone (Cast p) t a b c = taken p t && taken p a

-- 5 "each argument alone is taken, but not together"; two arguments are together as three of which the last is the first
abbrev pub taken_together : Row → Kind → Kind → Kind → Bool
taken_together Absent a b c = true
taken_together (Unary p) a b c = true
taken_together (Binary p q m) a b c = together m a b a
taken_together (Ternary p q r m) a b c = together m a b c
taken_together (Cast p) a b c = true

-- 6 "bitcast: the two types have different byte sizes"
abbrev pub byte_size : Kind → ℕ
byte_size k = lane_count k * (lane_bits (scalar_of k) / 8)

abbrev pub sized : Row → Kind → Kind → Bool
sized Absent t a = true
sized (Unary p) t a = true
sized (Binary p q m) t a = true
sized (Ternary p q r m) t a = true
sized (Cast p) t a = eqb (byte_size t) (byte_size a)

-- "The first that applies in the order 7, 1, 2, 3, 4, 5, 6, 8 is given; 7 and 8 belong to lines only." 0 where none applies.
abbrev pub first_of : Bool → Bool → Bool → Bool → Bool → Bool → ℕ
first_of known counted formed alone together sized =
    cond (not known) 1 (cond (not counted) 2 (cond (not formed) 3 (cond (not alone) 4 (cond (not together) 5 (cond (not sized) 6 0)))))

-- n arguments given for a row
unfoldable pub judged : Row → ℕ → Kind → Value → Value → Value → ℕ
judged row n t a b c =
    first_of (in_table row) (eqb n (arity row)) (formed row t a b c) (taken_alone row t a.kind b.kind c.kind)
    (taken_together row a.kind b.kind c.kind) (sized row t a.kind)

abbrev pub refusal_of : Call → ℕ
refusal_of c = judged (takes c.builtin) c.count c.target c.a c.b c.c
