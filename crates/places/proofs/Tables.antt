-- What holds at each place is one computed test over the places. Assumes nothing.
use Prim.Native.Nat.{ℕ, zero, suc, ◌+◌, ◌*◌, ◌%◌, ◌≤◌, ◌<◌}
use mathlib.Core.Bool.{Bool, true, false, not, cond, ◌&&◌, ◌||◌, false≢true}
use mathlib.Core.List.{List, [], ◌∷◌, map}
use mathlib.Core.Path.{◌≡◌, refl, ap, sym, ◌∙◌}
use native.Mathlib.Nat.{add-zero, zero-add}
use native.Mathlib.Omega.{arith}
use borrow.Author.Tests.{ltb-true, leb-true, eqb-true, ne_eqb, lt-ltb, le-leb}
use lib.Dec.{eqb, ltb, leb}
use lib.ListN.{length, get_or}
use lib.Seq.{drop-cons}
use Rattle.values.specs.declared.Scalar.{Scalar}
use Rattle.values.specs.declared.Scalar.TheVariants.{Boolean, I32, U32, F32, F16}
use Rattle.values.specs.declared.Kind.{Kind}
use Rattle.values.specs.declared.Kind.TheVariants.{Empty}
use Rattle.values.specs.Value.{scalars, scalar_place, scalar_of, kinds, kind_at, lane_count, shaped, place, is_type}
use Rattle.values.proofs.Bools.{both, and, agree}
use Rattle.values.proofs.Places.{each}
use Rattle.values.proofs.Tested.{below, below_at}

-- the product of two sizes
pub sixteen : (a b : ℕ) → a ≤ 4 → b ≤ 4 → a * b ≤ 16
sixteen zero b h k = omega arith
sixteen (suc zero) b h k = omega arith
sixteen (suc (suc zero)) b h k = omega arith
sixteen (suc (suc (suc zero))) b h k = omega arith
sixteen (suc (suc (suc (suc zero)))) b h k = omega arith
sixteen (suc (suc (suc (suc (suc a))))) b h k = absurd (omega arith)

pub get_d_map : {A B : Type 0} (f : A → B) (l : List A) (i : ℕ) (d : A) → get_or (map f l) i (f d) ≡ f (get_or l i d)
get_d_map f [] i d = refl
get_d_map f (x ∷ xs) zero d = refl
get_d_map f (x ∷ xs) (suc i) d = get_d_map f xs i d

abbrev alike : Bool → Bool → Bool
alike a b = cond a b (not b)

-- two numbers that are the same at every place where a test passes
pub equal_where : (test : ℕ → Bool) (f g : ℕ → ℕ) → below (λ p. cond (test p) (eqb (f p) (g p)) true) 39 ≡ true → (p : ℕ) → p < 39 → test p ≡ true → f p ≡ g p
equal_where test f g t p h e = eqb-true (f p) (g p) (rw e at (below_at (λ q. cond (test q) (eqb (f q) (g q)) true) 39 p t h))

-- n numbers from k on
abbrev up_from : ℕ → ℕ → List ℕ
up_from k zero = []
up_from k (suc n) = k ∷ up_from (suc k) n

nth : (k n i : ℕ) → i < n → get_or (up_from k n) i 0 ≡ k + i
nth k zero i h = absurd (omega arith)
nth k (suc n) zero h = omega arith
nth k (suc n) (suc i) h = nth (suc k) n i (omega arith) ∙ omega arith

pub own_place : (p : ℕ) → p < 39 → place (kind_at p) ≡ p
unfolding kind_at
own_place p h = sym (get_d_map place (Empty ∷ kinds) p Empty) ∙ nth 0 39 p h ∙ omega arith

pub typed : (k : Kind) → not (eqb (place k) 0) ≡ is_type k
typed k = agree (not (eqb (place k) 0)) (is_type k) (each (λ l. alike (not (eqb (place l) 0)) (is_type l)) refl k)

pub place_below : (k : Kind) → place k < 39
place_below k = ltb-true (place k) 39 (each (λ l. ltb (place l) 39) refl k)

-- the shape of another type with i32 lanes is a scalar's or a vector's, and one where that is one
pub integers_below : (k : Kind) → place (shaped I32 k) ≤ 20
integers_below k = leb-true (place (shaped I32 k)) 20 (each (λ l. leb (place (shaped I32 l)) 20) refl k)

pub integers_known : (k : Kind) → 0 < place k → place k ≤ 20 → 0 < place (shaped I32 k)
integers_known k z l =
    let t = each (λ m. cond (ltb 0 (place m) && leb (place m) 20) (ltb 0 (place (shaped I32 m))) true) refl k in
    ltb-true 0 (place (shaped I32 k)) (rw (lt-ltb 0 (place k) z, le-leb (place k) 20 l) at t)

pub count_below : (k : Kind) → lane_count k ≤ 16
count_below k = leb-true (lane_count k) 16 (each (λ l. leb (lane_count l) 16) refl k)

-- a scalar is the one of its place
scalar_there : (s : Scalar) → get_or scalars (scalar_place s) F16 ≡ s
scalar_there Boolean = refl
scalar_there I32 = refl
scalar_there U32 = refl
scalar_there F32 = refl
scalar_there F16 = refl

pub scalar_placed : {s t : Scalar} → scalar_place s ≡ scalar_place t → s ≡ t
scalar_placed {s} {t} e = sym (scalar_there s) ∙ ap (λ (n : ℕ). get_or scalars n F16) e ∙ scalar_there t

-- of scalars and vectors the scalar's place is the place's rest by five
pub by_five : (p : ℕ) → p < 39 → (p ≡ 0 → ⊥) → p ≤ 20 → (p + 4) % 5 ≡ scalar_place (scalar_of (kind_at p))
unfolding kind_at below
by_five p h z l =
    equal_where (λ q. not (eqb q 0) && leb q 20) (λ q. (q + 4) % 5) (λ q. scalar_place (scalar_of (kind_at q))) refl p h (and {a = not (eqb p 0)} (rw (ne_eqb p 0 z)) (le-leb p 20 l))

pub neither : (a b : Bool) → a || b ≡ false → (a ≡ false) × (b ≡ false)
neither false b t = (refl, t)
neither true b t = absurd (false≢true (sym t))

pub fifth : (m : ℕ) → m < 5 → (m ≡ 0 → ⊥) → (m ≡ 1 → ⊥) → (m ≡ 2 → ⊥) → (m ≡ 3 → ⊥) → 4 ≡ m
fifth zero h a b c d = absurd (a refl)
fifth (suc zero) h a b c d = absurd (b refl)
fifth (suc (suc zero)) h a b c d = absurd (c refl)
fifth (suc (suc (suc zero))) h a b c d = absurd (d refl)
fifth (suc (suc (suc (suc zero)))) h a b c d = refl
fifth (suc (suc (suc (suc (suc m))))) h a b c d = absurd (omega arith)
