-- Each type stands at its place in the list of them all, so types of one place are one, and what a test finds of all in the list holds of each type. Assumes nothing.
use Prim.Native.Nat.{ℕ, zero, suc, ◌≤◌}
use mathlib.Core.Bool.{Bool, true, ◌&&◌, not, cond}
use mathlib.Core.List.{List, [], ◌∷◌}
use mathlib.Core.Path.{◌≡◌, refl, ap, sym, ◌∙◌}
use borrow.Author.Tests.{eqb-true, eq-eqb, leb-true}
use lib.Dec.{leb, ltb}
use lib.ListN.{get_or, get_or-eq_default}
use Rattle.values.specs.Value.{lane_count, is_type, kinds, kind_at, place, same_kind}
use Rattle.values.proofs.Bools.{both, agree}
use Rattle.values.specs.contracts.KindPartialEq.TheImpl.{eq-value}
use Rattle.values.specs.declared.Scalar.TheVariants.{Boolean, I32, U32, F32, F16}
use Rattle.values.specs.declared.Width.TheVariants.{Single, Half}
use Rattle.values.specs.declared.Size.TheVariants.{Two, Three, Four}
use Rattle.values.specs.declared.Kind.{Kind}
use Rattle.values.specs.declared.Kind.TheVariants.{Empty, One, Vec, Mat}

pub there : (k : Kind) → kind_at (place k) ≡ k
unfolding kind_at
there Empty = refl
there (One Boolean) = refl
there (One I32) = refl
there (One U32) = refl
there (One F32) = refl
there (One F16) = refl
there (Vec Two Boolean) = refl
there (Vec Two I32) = refl
there (Vec Two U32) = refl
there (Vec Two F32) = refl
there (Vec Two F16) = refl
there (Vec Three Boolean) = refl
there (Vec Three I32) = refl
there (Vec Three U32) = refl
there (Vec Three F32) = refl
there (Vec Three F16) = refl
there (Vec Four Boolean) = refl
there (Vec Four I32) = refl
there (Vec Four U32) = refl
there (Vec Four F32) = refl
there (Vec Four F16) = refl
there (Mat Two Two Single) = refl
there (Mat Two Three Single) = refl
there (Mat Two Four Single) = refl
there (Mat Three Two Single) = refl
there (Mat Three Three Single) = refl
there (Mat Three Four Single) = refl
there (Mat Four Two Single) = refl
there (Mat Four Three Single) = refl
there (Mat Four Four Single) = refl
there (Mat Two Two Half) = refl
there (Mat Two Three Half) = refl
there (Mat Two Four Half) = refl
there (Mat Three Two Half) = refl
there (Mat Three Three Half) = refl
there (Mat Three Four Half) = refl
there (Mat Four Two Half) = refl
there (Mat Four Three Half) = refl
there (Mat Four Four Half) = refl

-- so what has a place is the type of it
pub placed : {k : Kind} {n : ℕ} → place k ≡ n → k ≡ kind_at n
placed {k} e = sym (there k) ∙ ap kind_at e

pub none_past : (n : ℕ) → 39 ≤ n → kind_at n ≡ Empty
unfolding kind_at
none_past n h = get_or-eq_default (Empty ∷ kinds) Empty h

pub same : {k l : Kind} → same_kind k l ≡ true → k ≡ l
same {k} {l} t = placed (eqb-true (place k) (place l) t) ∙ there l

pub itself : (k : Kind) → same_kind k k ≡ true
itself k = eq-eqb (place k) (place k) refl

abbrev pub all : (Kind → Bool) → List Kind → Bool
all p [] = true
all p (k ∷ l) = p k && all p l

passes : (p : Kind → Bool) (l : List Kind) (i : ℕ) → p Empty ≡ true → all p l ≡ true → p (get_or l i Empty) ≡ true
passes p [] i e t = e
passes p (k ∷ l) zero e t = (both (p k) (all p l) t).0
passes p (k ∷ l) (suc i) e t = passes p l i e (both (p k) (all p l) t).1

-- a table over the types is one computed test
pub each : (p : Kind → Bool) → all p (Empty ∷ kinds) ≡ true → (k : Kind) → p k ≡ true
unfolding kind_at
each p t k = ap p (sym (there k)) ∙ passes p (Empty ∷ kinds) (place k) (both (p Empty) (all p kinds) t).0 t

abbrev alike : Kind → Kind → Bool
alike k l = cond (eq-value.it k l) (same_kind k l) (not (same_kind k l))

-- what == answers of two types is whether their places are one
pub equals : (k l : Kind) → eq-value.it k l ≡ same_kind k l
equals k l = agree (eq-value.it k l) (same_kind k l) (each (alike k) (each (λ m. all (alike m) (Empty ∷ kinds)) refl k) l)

pub lanes_at_most_16 : (k : Kind) → lane_count k ≤ 16
lanes_at_most_16 k = leb-true (lane_count k) 16 (each (λ l. leb (lane_count l) 16) refl k)

-- a type has a lane, and no type has none
pub typed : (k : Kind) → is_type k ≡ ltb 0 (lane_count k)
typed k = agree (is_type k) (ltb 0 (lane_count k)) (each (λ l. cond (is_type l) (ltb 0 (lane_count l)) (not (ltb 0 (lane_count l)))) refl k)
