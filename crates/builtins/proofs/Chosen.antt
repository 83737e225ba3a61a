-- select: a scalar condition, spread over every lane, chooses one of the two lists of lanes and so a whole value; a vector condition stands as it came, and then the values have lanes
-- to choose from, since a matrix has no shape in bool. Assumes nothing.
use Prim.Native.Nat.{ℕ, zero, suc}
use mathlib.Core.Bool.{Bool, true, false, cond, ◌||◌, false≢true}
use mathlib.Core.List.{List, [], ◌∷◌}
use mathlib.Core.Path.{◌≡◌, refl, ap, sym, ◌∙◌}
use native.Mathlib.Omega.{arith}
use lib.Dec.{eqb}
use lib.ListN.{length, take, replicate}
use Rattle.values.specs.declared.Scalar.TheVariants.{Boolean}
use Rattle.values.specs.declared.Kind.{Kind}
use Rattle.values.specs.declared.Kind.TheVariants.{Empty, One, Vec, Mat}
use Rattle.values.specs.declared.Value.{Value}
use Rattle.values.specs.Value.{lane_count, shaped, same_kind, lane, value, zip3, lanewise3}
use Rattle.values.specs.Program.{is_lanes}
use Rattle.values.proofs.Bools.{both}
use Rattle.values.proofs.Formed.{whole}
use Rattle.values.proofs.Places.{same}
use Rattle.calls.specs.Table.{Selectable, Anything, Booleans, taken}
use Rattle.calls.specs.Program.{Passed3}
use Rattle.moves.specs.Moves.{select_lane}
use Rattle.builtins.specs.Logical.{select_of}

spread_out : (x m n : ℕ) (l o : List ℕ) (s : Bool) → eqb x 0 ≡ s → length l ≡ m → length o ≡ m → zip3 select_lane (take n l) o (replicate m x) ≡ take n (cond s l o)
spread_out x m zero l o s e h g = refl
spread_out x zero (suc n) [] [] true e h g = refl
spread_out x zero (suc n) [] [] false e h g = refl
spread_out x zero (suc n) (a ∷ l) o s e h g = absurd (omega arith)
spread_out x zero (suc n) [] (b ∷ o) s e h g = absurd (omega arith)
spread_out x (suc m) (suc n) [] o s e h g = absurd (omega arith)
spread_out x (suc m) (suc n) (a ∷ l) [] s e h g = absurd (omega arith)
spread_out x (suc m) (suc n) (a ∷ l) (b ∷ o) true e h g = cc (e, spread_out x m n l o true e (omega arith) (omega arith))
spread_out x (suc m) (suc n) (a ∷ l) (b ∷ o) false e h g = cc (e, spread_out x m n l o false e (omega arith) (omega arith))

in_lanes : (k : Kind) → taken Booleans k ≡ true → is_lanes k ≡ true
in_lanes (One s) h = refl
in_lanes (Vec n s) h = refl
in_lanes Empty h = absurd (false≢true h)
in_lanes (Mat c r w) h = absurd (false≢true h)

has_lanes : (k : Kind) → is_lanes (shaped Boolean k) ≡ true → is_lanes k ≡ true
has_lanes (One s) h = refl
has_lanes (Vec n s) h = refl
has_lanes Empty h = absurd (false≢true h)
has_lanes (Mat c r w) h = absurd (false≢true h)

module _ {f t c : Value} (p : Passed3 Anything Anything Booleans Selectable f t c) where
  one_type : f.kind ≡ t.kind
  one_type = same (both (same_kind f.kind t.kind) _ p.joint).0

  spread_lanes : same_kind c.kind (One Boolean) ≡ true → length f.lanes ≡ 16 → length t.lanes ≡ 16 → (s : Bool) → eqb (lane c 0) 0 ≡ s
      → select_of f t c ≡ value f.kind (take (lane_count f.kind) (cond s f.lanes t.lanes))
  unfolding select_of lanewise3
  spread_lanes scalar lf lt s e = rw scalar (ap (value f.kind) (spread_out (lane c 0) 16 (lane_count f.kind) f.lanes t.lanes s e lf lt))

  one_of : length f.lanes ≡ 16 → length t.lanes ≡ 16 → (s : Bool) → value f.kind (take (lane_count f.kind) (cond s f.lanes t.lanes)) ≡ cond s f t
  one_of lf lt true = whole f p.first.formed lf
  one_of lf lt false = rw one_type (whole t p.second.formed lt)

  pub by_scalar : same_kind c.kind (One Boolean) ≡ true → length f.lanes ≡ 16 → length t.lanes ≡ 16 → cond (eqb (lane c 0) 0) f t ≡ select_of f t c
  by_scalar scalar lf lt = sym (spread_lanes scalar lf lt (eqb (lane c 0) 0) refl ∙ one_of lf lt (eqb (lane c 0) 0))

  pub by_vector : same_kind c.kind (One Boolean) ≡ false → lanewise3 select_lane f t c ≡ select_of f t c
  unfolding select_of
  by_vector e = rw e

  pub lanes_to_choose : same_kind c.kind (One Boolean) ≡ false → is_lanes f.kind ≡ true
  lanes_to_choose e =
      let shape : same_kind c.kind (shaped Boolean f.kind) ≡ true = rw e at (both (same_kind f.kind t.kind) (same_kind c.kind (One Boolean) || same_kind c.kind (shaped Boolean f.kind)) p.joint).1 in
      has_lanes f.kind (rw (same {k = c.kind} {l = shaped Boolean f.kind} shape) at (in_lanes c.kind p.third.alone))
