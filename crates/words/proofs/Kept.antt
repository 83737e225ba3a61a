-- The words of a scalar or a vector: its place, and lane by lane the lanes that are kept, of which there are four at most. By `kept_value` and by cases of the lane. Assumes nothing.
use Prim.Native.Nat.{ℕ, zero, suc, ◌<◌}
use mathlib.Core.Bool.{cond}
use mathlib.Core.List.{List, ◌∷◌}
use mathlib.Core.Path.{◌≡◌, refl, ap, sym, ◌∙◌}
use native.Mathlib.Omega.{arith}
use borrow.Author.Tests.{le-ltb}
use lib.Dec.{ltb}
use lib.ListN.{length, take, get_or, replicate, get_or-replicate}
use Rattle.values.specs.declared.Value.{Value}
use Rattle.values.specs.Value.{lane_count, kind_at, value}
use Rattle.values.specs.Program.{kept}
use Rattle.values.proofs.Lanes.{kept_value}
use Rattle.words.specs.Words.{words_of}
use Rattle.places.proofs.Tables.{own_place}

-- the value of the type at p whose lanes are the first of these
abbrev pub first_of : ℕ → List ℕ → Value
first_of p x = value (kind_at p) (take (lane_count (kind_at p)) x)

abbrev kept_lanes : ℕ → List ℕ → List ℕ
kept_lanes n x = kept 0 n x ∷ kept 1 n x ∷ kept 2 n x ∷ kept 3 n x ∷ replicate 12 0

kept_lane : (n : ℕ) (x : List ℕ) (i : ℕ) → i < 16 → cond (ltb i 4) (kept i n x) 0 ≡ get_or (kept_lanes n x) i 0
kept_lane n x zero h = refl
kept_lane n x (suc zero) h = refl
kept_lane n x (suc (suc zero)) h = refl
kept_lane n x (suc (suc (suc zero))) h = refl
kept_lane n x (suc (suc (suc (suc i)))) h = rw (le-ltb (suc (suc (suc (suc i)))) 4 (omega arith)) (sym (get_or-replicate 12 i 0 0 (omega arith)))

module _ (p : ℕ) (x : List ℕ) where
  pub first_length : length x ≡ 4 → length (first_of p x).lanes ≡ 16
  first_length h = ap (λ (v : Value). length v.lanes) (sym (kept_value (kind_at p) x h refl refl refl refl refl))

  pub first_lane : {n r : ℕ} (i : ℕ) → length x ≡ 4 → i < 16 → n ≡ lane_count (kind_at p) → r ≡ cond (ltb i 4) (kept i n x) 0 → r ≡ get_or (first_of p x).lanes i 0
  first_lane {n} i h below en er = er ∙ kept_lane n x i below ∙ ap (λ (v : Value). get_or v.lanes i 0) (kept_value (kind_at p) x h en refl refl refl refl)

  pub first_words : p < 39 → words_of (first_of p x) ≡ p ∷ (first_of p x).lanes
  unfolding value
  first_words h = rw (own_place p h)
