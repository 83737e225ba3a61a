-- A call whose refusal is 0 has passed every test of its row: of the tests in their order none failed. Assumes nothing.
use Prim.Native.Nat.{ℕ}
use mathlib.Core.Bool.{Bool, true, false, ◌&&◌}
use mathlib.Core.Path.{◌≡◌, refl}
use native.Mathlib.Omega.{arith}
use borrow.Author.Tests.{eqb-true}
use Rattle.values.specs.declared.Kind.{Kind}
use Rattle.values.specs.declared.Value.{Value}
use Rattle.values.specs.Value.{is_type, well_formed}
use Rattle.values.proofs.Bools.{both}
use Rattle.calls.specs.Table.{Taken, Together, Row, Unary, Binary, Ternary, Cast, taken}
use Rattle.calls.specs.Refuse.{in_table, arity, formed, taken_alone, taken_together, sized, byte_size, first_of, judged}
use Rattle.calls.specs.Program.{Passed, Passed2, Passed3, PassedCast}
use lib.Dec.{eqb}

record Tests (formed alone together sized : Bool) : Type 0 where
  is_formed : formed ≡ true
  is_alone : alone ≡ true
  is_together : together ≡ true
  is_sized : sized ≡ true

none : (k n f a t s : Bool) → first_of k n f a t s ≡ 0 → Tests f a t s
none true true true true true true e = record { is_formed = refl; is_alone = refl; is_together = refl; is_sized = refl }
none false n f a t s e = absurd (omega arith)
none true false f a t s e = absurd (omega arith)
none true true false a t s e = absurd (omega arith)
none true true true false t s e = absurd (omega arith)
none true true true true false s e = absurd (omega arith)
none true true true true true false e = absurd (omega arith)

tests : (row : Row) (n : ℕ) (t : Kind) (a b c : Value) → judged row n t a b c ≡ 0
    → Tests (formed row t a b c) (taken_alone row t a.kind b.kind c.kind) (taken_together row a.kind b.kind c.kind) (sized row t a.kind)
unfolding judged
tests row n t a b c e =
    none (in_table row) (eqb n (arity row)) (formed row t a b c) (taken_alone row t a.kind b.kind c.kind) (taken_together row a.kind b.kind c.kind) (sized row t a.kind) e

passed : (p : Taken) (a : Value) → well_formed a ≡ true → taken p a.kind ≡ true → Passed p a
passed p a f t = record { formed = f; alone = t }

module _ (n : ℕ) (t : Kind) (a b c : Value) where
  pub unary : (p : Taken) → judged (Unary p) n t a b c ≡ 0 → Passed p a
  unary p e = let h = tests (Unary p) n t a b c e in passed p a h.is_formed h.is_alone

  pub binary : (p q : Taken) (m : Together) → judged (Binary p q m) n t a b c ≡ 0 → Passed2 p q m a b
  binary p q m e =
      let h = tests (Binary p q m) n t a b c e in
      let f = both (well_formed a) (well_formed b) h.is_formed in
      let l = both (taken p a.kind) (taken q b.kind) h.is_alone in
      record { first = passed p a f.0 l.0; second = passed q b f.1 l.1; joint = h.is_together }

  pub ternary : (p q r : Taken) (m : Together) → judged (Ternary p q r m) n t a b c ≡ 0 → Passed3 p q r m a b c
  ternary p q r m e =
      let h = tests (Ternary p q r m) n t a b c e in
      let f = both (well_formed a && well_formed b) (well_formed c) h.is_formed in
      let g = both (well_formed a) (well_formed b) f.0 in
      let l = both (taken p a.kind && taken q b.kind) (taken r c.kind) h.is_alone in
      let k = both (taken p a.kind) (taken q b.kind) l.0 in
      record { first = passed p a g.0 k.0; second = passed q b g.1 k.1; third = passed r c f.1 l.1; joint = h.is_together }

  pub cast : (p : Taken) → judged (Cast p) n t a b c ≡ 0 → PassedCast p t a
  cast p e =
      let h = tests (Cast p) n t a b c e in
      let f = both (is_type t) (well_formed a) h.is_formed in
      let l = both (taken p t) (taken p a.kind) h.is_alone in
      record { type = f.0; target = l.0; value = passed p a f.1 l.1; size = eqb-true (byte_size t) (byte_size a.kind) h.is_sized }
