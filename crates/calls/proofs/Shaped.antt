-- What is judged by a row's shape and its set is what is judged by the row, by cases of the row: of a row of the table the other places take what the shape says,
-- which is one computed test over the table. Assumes nothing.
use Prim.Native.Nat.{ℕ, zero, suc, ◌+◌}
use mathlib.Core.Bool.{Bool, true, false, ◌&&◌, and-true, false≢true}
use mathlib.Core.List.{List, [], ◌∷◌}
use mathlib.Core.Path.{◌≡◌, refl, ap, sym, ◌∙◌}
use native.Mathlib.Nat.{add-zero, zero-add}
use native.Mathlib.Omega.{arith}
use borrow.Author.Tests.{eqb-true}
use lib.Dec.{eqb}
use lib.ListN.{get_or}
use Rattle.values.specs.declared.Kind.{Kind}
use Rattle.values.specs.declared.Value.{Value}
use Rattle.values.specs.Value.{kind_at, place}
use Rattle.values.proofs.Bools.{both}
use Rattle.values.proofs.Places.{itself}
use Rattle.places.specs.Program.{member, set_of}
use Rattle.words.specs.Words.{value_at}
use Rattle.places.proofs.Sets.{members}
use Rattle.calls.specs.declared.Builtin.{Builtin}
use Rattle.calls.specs.declared.Builtin.TheVariants.{Unknown}
use Rattle.calls.specs.Table.{Taken, Anything, I32s, Together, OneType, Selectable, SameShape, Row, Absent, Unary, Binary, Ternary, Cast, taken, takes, builtins, builtin_at}
use Rattle.calls.specs.Refuse.{judged, refusal_of}
use Rattle.calls.specs.declared.table.Shape.{Shape}
use Rattle.calls.specs.Words.{call_of}
use Rattle.calls.specs.Program.{shape_of, types_of, judged_as}

-- the set as the code has it
pub i32s : (k : Kind) → member 0x21084 (place k) ≡ taken I32s k
unfolding set_of
i32s k = members (taken I32s) k

-- ---- rows of which one set says all

abbrev pub alike : Taken → Taken → Bool
alike p q = eqb (set_of (taken p)) (set_of (taken q))

pub same_taken : (p q : Taken) → alike p q ≡ true → (k : Kind) → taken p k ≡ taken q k
same_taken p q e k =
    sym (members (taken p) k) ∙ ap (λ (s : ℕ). member s (place k)) (eqb-true (set_of (taken p)) (set_of (taken q)) e) ∙ members (taken q) k

abbrev pub regular2 : Together → Taken → Taken → Bool
regular2 OneType p q = alike p q
regular2 Selectable p q = false
regular2 SameShape p q = alike I32s q

abbrev pub regular3 : Together → Taken → Taken → Taken → Bool
regular3 OneType p q r = alike p q && alike p r
regular3 Selectable p q r = alike Anything p && alike Anything q
regular3 SameShape p q r = false

abbrev pub regular : Row → Bool
regular Absent = true
regular (Unary p) = true
regular (Binary p q m) = regular2 m p q
regular (Ternary p q r m) = regular3 m p q r
regular (Cast p) = true

module _ (n : ℕ) (t : Kind) (a b c : Value) where
  pub by_shape : (row : Row) → regular row ≡ true → judged_as (shape_of row) (types_of row) n t a b c ≡ judged row n t a b c
  unfolding judged
  by_shape Absent f = refl
  by_shape (Unary p) f = rw (members (taken p) a.kind)
  by_shape (Binary p q OneType) f =
      rw (members (taken p) a.kind, members (taken p) b.kind, same_taken p q f b.kind, itself a.kind, and-true)
  by_shape (Binary p q SameShape) f = rw (members (taken p) a.kind, same_taken I32s q f b.kind)
  by_shape (Binary p q Selectable) f = absurd (false≢true f)
  by_shape (Ternary p q r OneType) f =
      let h = both (alike p q) (alike p r) f in
      rw (members (taken p) a.kind, members (taken p) b.kind, members (taken p) c.kind, same_taken p q h.0 b.kind, same_taken p r h.1 c.kind)
  by_shape (Ternary p q r Selectable) f =
      let h = both (alike Anything p) (alike Anything q) f in
      rw (members (taken r) c.kind, ← same_taken Anything p h.0 a.kind, ← same_taken Anything q h.1 b.kind)
  by_shape (Ternary p q r SameShape) f = absurd (false≢true f)
  by_shape (Cast p) f = rw (members (taken p) t, members (taken p) a.kind)

-- ---- the table

-- a test of every builtin, and of its number, is one computed test
abbrev pub numbered : (ℕ → Builtin → Bool) → ℕ → List Builtin → Bool
numbered f k [] = true
numbered f k (b ∷ bs) = f k b && numbered f (suc k) bs

at_number : (f : ℕ → Builtin → Bool) (k : ℕ) (bs : List Builtin) → ((n : ℕ) → f n Unknown ≡ true) → numbered f k bs ≡ true → (i : ℕ) → f (k + i) (get_or bs i Unknown) ≡ true
at_number f k [] e t i = e (k + i)
at_number f k (b ∷ bs) e t zero = rw add-zero (both (f k b) (numbered f (suc k) bs) t).0
at_number f k (b ∷ bs) e t (suc i) =
    let m : k + suc i ≡ suc k + i = omega arith in
    rw m (at_number f (suc k) bs e (both (f k b) (numbered f (suc k) bs) t).1 i)

pub each : (f : ℕ → Builtin → Bool) → ((n : ℕ) → f n Unknown ≡ true) → numbered f 0 (Unknown ∷ builtins) ≡ true → (i : ℕ) → f i (builtin_at i) ≡ true
unfolding builtin_at
each f e t i = rw zero-add at (at_number f 0 (Unknown ∷ builtins) e t i)

pub each_row : (f : Row → Bool) → numbered (λ n b. f (takes b)) 0 (Unknown ∷ builtins) ≡ true → (i : ℕ) → f (takes (builtin_at i)) ≡ true
each_row f t = each (λ n b. f (takes b)) (λ n. (both (f Absent) (numbered (λ m b. f (takes b)) 1 builtins) t).0) t

pub regular_at : (i : ℕ) → regular (takes (builtin_at i)) ≡ true
unfolding set_of
regular_at = each_row regular refl

-- ---- calls of words, as the code has them

pub right : (w : List ℕ) {i n set r : ℕ} {s : Shape} → i ≡ get_or w 0 0 → n ≡ get_or w 1 0 → s ≡ shape_of (takes (builtin_at i)) → set ≡ types_of (takes (builtin_at i))
    → r ≡ judged_as s set n (kind_at (get_or w 2 0)) (value_at w 3) (value_at w 20) (value_at w 37) → r ≡ refusal_of (call_of w)
unfolding call_of
right w {i} {n} ei en es et er =
    rw (er, es, et, ← ei, ← en) (by_shape n (kind_at (get_or w 2 0)) (value_at w 3) (value_at w 20) (value_at w 37) (takes (builtin_at i)) (regular_at i))
