-- A value's lanes one by one: what a builtin that acts lane by lane gives at each place in use, and that well-formed values of one type which agree there are one. Assumes nothing.
use mathlib.Core.Path.{◌≡◌, refl, sym, ap, ap₂, ◌∙◌}
use mathlib.Core.Logic.{inl, inr}
use Prim.Native.Nat.{ℕ, zero, suc, ◌-◌, ◌≤◌, ◌<◌}
use native.Mathlib.Omega.{arith}
use mathlib.Core.List.{List, [], ◌∷◌, ◌++◌, map}
use lib.ListN.{length, take, get_or, replicate}
use lib.Seq.{length-take-le}
use Rattle.half.proofs.Closest.{split}
use Rattle.values.specs.declared.Kind.{Kind}
use Rattle.values.specs.declared.Value.{Value}
use Rattle.values.specs.Value.{scalar_of, lane_count, lanes_of, lane, value, Formed, zip2, zip3, lanewise, lanewise2, lanewise3}
use Rattle.values.proofs.Formed.{whole}
use Rattle.values.proofs.Places.{lanes_at_most_16}
use Rattle.rewrites.specs.Equality.{SameLane, SameValue}
use Rattle.rewrites.specs.Rewrites.{Of}

-- ---- lists of lanes, 0 past the last
no_lane : (n i : ℕ) → ◌≡◌ {A = ℕ} (get_or (replicate n 0) i 0) 0
no_lane zero i = refl
no_lane (suc n) zero = refl
no_lane (suc n) (suc i) = no_lane n i

padded : (xs : List ℕ) (n i : ℕ) → get_or (xs ++ replicate n 0) i 0 ≡ get_or xs i 0
padded [] n i = no_lane n i
padded (x ∷ xs) n zero = refl
padded (x ∷ xs) n (suc i) = padded xs n i

past : (xs : List ℕ) (i : ℕ) → length xs ≤ i → get_or xs i 0 ≡ 0
past [] i h = refl
past (x ∷ xs) zero h = absurd (omega arith)
past (x ∷ xs) (suc i) h = past xs i (omega arith)

zipped : (f : ℕ → ℕ → ℕ → ℕ) (n : ℕ) (l m o : List ℕ) (i : ℕ) → i < n → n ≤ length l → n ≤ length m → n ≤ length o
    → get_or (zip3 f (take n l) m o) i 0 ≡ f (get_or l i 0) (get_or m i 0) (get_or o i 0)
zipped f zero l m o i h hl hm ho = absurd (omega arith)
zipped f (suc n) [] m o i h hl hm ho = absurd (omega arith)
zipped f (suc n) (x ∷ l) [] o i h hl hm ho = absurd (omega arith)
zipped f (suc n) (x ∷ l) (y ∷ m) [] i h hl hm ho = absurd (omega arith)
zipped f (suc n) (x ∷ l) (y ∷ m) (z ∷ o) zero h hl hm ho = refl
zipped f (suc n) (x ∷ l) (y ∷ m) (z ∷ o) (suc i) h hl hm ho = zipped f n l m o i (omega arith) (omega arith) (omega arith) (omega arith)

-- a function of fewer lanes is one of three that does not look at the others
zip_two : (f : ℕ → ℕ → ℕ) (n : ℕ) (l m : List ℕ) → zip2 f (take n l) m ≡ zip3 (λ x y z. f x y) (take n l) m l
zip_two f zero l m = refl
zip_two f (suc n) [] m = refl
zip_two f (suc n) (x ∷ l) [] = refl
zip_two f (suc n) (x ∷ l) (y ∷ m) = ap (◌∷◌ (f x y)) (zip_two f n l m)

zip_one : (f : ℕ → ℕ) (n : ℕ) (l : List ℕ) → map f (take n l) ≡ zip3 (λ x y z. f x) (take n l) l l
zip_one f zero l = refl
zip_one f (suc n) [] = refl
zip_one f (suc n) (x ∷ l) = ap (◌∷◌ (f x)) (zip_one f n l)

alike : (l m : List ℕ) → length l ≡ length m → ((i : ℕ) → get_or l i 0 ≡ get_or m i 0) → l ≡ m
alike [] [] e h = refl
alike [] (y ∷ m) e h = absurd (omega arith)
alike (x ∷ l) [] e h = absurd (omega arith)
alike (x ∷ l) (y ∷ m) e h = ap₂ ◌∷◌ (h 0) (alike l m (omega arith) (λ i. h (suc i)))

-- ---- values
pub lane_value : (k : Kind) (xs : List ℕ) (i : ℕ) → lane (value k xs) i ≡ get_or xs i 0
unfolding value
lane_value k xs i = padded xs (16 - length xs) i

pub few : (k : Kind) (v : Value) → Formed v → lane_count k ≤ length v.lanes
few k v p = omega (arith, p.lanes, lanes_at_most_16 k)

unused : (k : Kind) (v : Value) → Of k v → (i : ℕ) → lane_count k ≤ i → lane v i ≡ 0
unused k v p i h =
    let count : length (lanes_of v) ≡ lane_count k = length-take-le (lane_count v.kind) v.lanes (few v.kind v p.formed) ∙ ap lane_count p.type in
    ap (λ (u : Value). lane u i) (sym (whole v p.formed.good p.formed.lanes)) ∙ lane_value v.kind (lanes_of v) i ∙ past (lanes_of v) i (omega (arith, count))

module _ (k : Kind) (u v : Value) (p : Of k u) (q : Of k v) where
  -- what holds at each place in use, and of two zeros, holds at each
  everywhere : (P : ℕ → ℕ → Type 0) → P 0 0 → ((i : ℕ) → i < lane_count k → P (lane u i) (lane v i)) → (i : ℕ) → P (lane u i) (lane v i)
  everywhere P z h i =
      elim (split i (lane_count k)) [
        | inl l ↦ h i l
        | inr l ↦ rw (unused k u p i l, unused k v q i l) z
      ]

  pub one_value : ((i : ℕ) → i < lane_count k → lane u i ≡ lane v i) → u ≡ v
  one_value h =
      ap₂ (λ (l : Kind) (xs : List ℕ). record { kind = l; lanes = xs }) (p.type ∙ sym q.type)
      (alike u.lanes v.lanes (p.formed.lanes ∙ sym q.formed.lanes) (everywhere (λ x y. x ≡ y) refl h))

  pub same_value : ((i : ℕ) → i < lane_count k → SameLane (scalar_of k) (lane u i) (lane v i)) → SameValue u v
  same_value h = record {
    type = p.type ∙ sym q.type;
    lanes = λ i. rw p.type (everywhere (SameLane (scalar_of k)) refl h i);
  }

-- ---- lane by lane
module _ (u v w : Value) (p : Formed u) (q : Formed v) (s : Formed w) (i : ℕ) (h : i < lane_count u.kind) where
  pub lane_three : (f : ℕ → ℕ → ℕ → ℕ) → lane (lanewise3 f u v w) i ≡ f (lane u i) (lane v i) (lane w i)
  unfolding lanewise3
  lane_three f =
      lane_value u.kind (zip3 f (lanes_of u) v.lanes w.lanes) i
      ∙ zipped f (lane_count u.kind) u.lanes v.lanes w.lanes i h (few u.kind u p) (few u.kind v q) (few u.kind w s)

module _ (u v : Value) (p : Formed u) (q : Formed v) (i : ℕ) (h : i < lane_count u.kind) where
  pub lane_two : (f : ℕ → ℕ → ℕ) → lane (lanewise2 f u v) i ≡ f (lane u i) (lane v i)
  unfolding lanewise2 lanewise3
  lane_two f = ap (λ (l : List ℕ). lane (value u.kind l) i) (zip_two f (lane_count u.kind) u.lanes v.lanes) ∙ lane_three u v u p q p i h (λ x y z. f x y)

module _ (u : Value) (p : Formed u) (i : ℕ) (h : i < lane_count u.kind) where
  -- into a value of any type
  pub lane_into : (k : Kind) (f : ℕ → ℕ) → lane (value k (map f (lanes_of u))) i ≡ f (lane u i)
  lane_into k f =
      lane_value k (map f (lanes_of u)) i ∙ ap (λ (l : List ℕ). get_or l i 0) (zip_one f (lane_count u.kind) u.lanes)
      ∙ zipped (λ x y z. f x) (lane_count u.kind) u.lanes u.lanes u.lanes i h (few u.kind u p) (few u.kind u p) (few u.kind u p)

  pub lane_one : (f : ℕ → ℕ) → lane (lanewise f u) i ≡ f (lane u i)
  unfolding lanewise
  lane_one f = lane_into u.kind f
