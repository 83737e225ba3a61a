-- A sum from the first term up looks at no term past the last. So dot of two vectors looks at no lane past the last,
-- and the four lanes that the program works on serve for the values'. Assumes nothing.
use Rattle.std.proofs.Common.{◌≡◌, ℕ, zero, suc, ◌+◌, ◌-◌, ◌*◌, ◌%◌, ◌^◌, ◌≤◌, min, true, get_or, refl, ap, mod-eq_of_lt, arith}
use native.Mathlib.Nat.{min-eq_left}
use lib.Ieee.{binary32, to_bits, of_bits, add, mul}
use Rattle.values.specs.declared.Scalar.{Scalar}
use Rattle.values.specs.declared.Scalar.TheVariants.{Boolean, I32, U32, F32, F16}
use Rattle.values.specs.declared.Value.{Value}
use Rattle.values.specs.Value.{lane_count, lane, well_formed}
use Rattle.values.specs.Program.{low, four, is_lanes}
use Rattle.values.proofs.Formed.{lane_narrow}
use Rattle.values.proofs.Lanes.{few}
use Rattle.products.specs.Products.{summed, dot_lane}

module _ {A : Type 0} (plus : A → A → A) where
  same_terms : (p q : ℕ → A) (n : ℕ) → ((i : ℕ) → i ≤ n → p i ≡ q i) → summed plus p n ≡ summed plus q n
  same_terms p q zero e = e 0 (omega arith)
  same_terms p q (suc n) e = rw (same_terms p q n (λ i h. e i (omega arith)), e (suc n) (omega arith))

module _ (a a' b b' : ℕ → ℕ) (n : ℕ) (e : (i : ℕ) → i ≤ n → a i ≡ a' i) (f : (i : ℕ) → i ≤ n → b i ≡ b' i) where
  words : dot_lane U32 a b n ≡ dot_lane U32 a' b' n
  words = same_terms (λ x y. (x + y) % 2 ^ 32) (λ i. a i * b i % 2 ^ 32) (λ i. a' i * b' i % 2 ^ 32) n (λ i h. rw (e i h, f i h))

  pub same_lanes_lem : (s : Scalar) → dot_lane s a b n ≡ dot_lane s a' b' n
  same_lanes_lem Boolean = refl
  same_lanes_lem I32 = words
  same_lanes_lem U32 = words
  same_lanes_lem F32 = ap (to_bits binary32) (same_terms (add binary32) (λ i. mul binary32 (of_bits binary32 (a i)) (of_bits binary32 (b i))) (λ i. mul binary32 (of_bits binary32 (a' i)) (of_bits binary32 (b' i))) n (λ i h. rw (e i h, f i h)))
  same_lanes_lem F16 = refl

-- ---- the four lanes that the program works on are those of a well-formed value, and a scalar or a vector has no more
uncut : (v : Value) → well_formed v ≡ true → (i : ℕ) → i ≤ 3 → get_or (four low v.lanes) i 0 ≡ lane v i
uncut v w zero h = mod-eq_of_lt (lane_narrow v w 0)
uncut v w (suc zero) h = mod-eq_of_lt (lane_narrow v w 1)
uncut v w (suc (suc zero)) h = mod-eq_of_lt (lane_narrow v w 2)
uncut v w (suc (suc (suc zero))) h = mod-eq_of_lt (lane_narrow v w 3)
uncut v w (suc (suc (suc (suc i)))) h = absurd (omega arith)

pub dot_uncut : (s : Scalar) (u v : Value) → well_formed u ≡ true → well_formed v ≡ true → is_lanes u.kind ≡ true
    → dot_lane s (λ i. get_or (four low u.lanes) i 0) (λ i. get_or (four low v.lanes) i 0) (min (lane_count u.kind) 4 - 1) ≡ dot_lane s (lane u) (lane v) (lane_count u.kind - 1)
dot_uncut s u v fu fv is =
    let n = lane_count u.kind in
    let most : n ≤ 4 = few u.kind is in
    rw (min-eq_left most) (same_lanes_lem _ _ _ _ (n - 1) (λ i h. uncut u fu i (omega arith)) (λ i h. uncut v fv i (omega arith)) s)
