-- The text of a type by its place, as the code chooses and writes it: what is chosen is one computed test over the places, and writes one after another are one. Assumes nothing.
use Prim.Native.Nat.{ℕ, zero, suc, ◌+◌, ◌-◌, ◌/◌, ◌%◌, ◌≤◌, ◌<◌}
use mathlib.Core.Bool.{cond}
use mathlib.Core.List.{List, [], ◌∷◌, ◌++◌}
use mathlib.Core.Path.{◌≡◌, refl, ap}
use native.Mathlib.Omega.{arith}
use borrow.Author.Tests.{eqb-true, eq-eqb, ne_eqb, lt-ltb, le-ltb}
use lib.Dec.{eqb, ltb}
use lib.ListN.{length, length-append}
use Rattle.values.specs.declared.Scalar.{Scalar}
use Rattle.values.specs.declared.Scalar.TheVariants.{Boolean, I32, U32, F32, F16}
use Rattle.values.specs.Value.{scalar_place, scalar_of, kind_at}
use Rattle.buffers.specs.Memory.{put}
use Rattle.buffers.specs.Text.{byte, bytes, same_bytes}
use Rattle.buffers.proofs.Lookup.{same_true}
use Rattle.buffers.proofs.Puts.{Made, both_made}
use Rattle.spelling.specs.Types.{scalar_text, spelled}
use Rattle.values.proofs.Tested.{below, below_at}

-- ---- scalars

abbrev pub three : ℕ → List ℕ
three c = cond (eqb c 1) (byte "i") (cond (eqb c 2) (byte "u") (byte "f")) ∷ cond (eqb c 4) (byte "1") (byte "3") ∷ cond (eqb c 4) (byte "6") (byte "2") ∷ []

chosen : (s : Scalar) → scalar_text s ≡ cond (eqb (scalar_place s) 0) (bytes "bool") (three (scalar_place s))
chosen Boolean = refl
chosen I32 = refl
chosen U32 = refl
chosen F32 = refl
chosen F16 = refl

module _ (s : Scalar) {c : ℕ} (e : c ≡ scalar_place s) where
  pub bool_chosen : c ≡ 0 → scalar_text s ≡ bytes "bool"
  bool_chosen z = rw (← e, eq-eqb c 0 z) at (chosen s)

  pub three_chosen : (c ≡ 0 → ⊥) → scalar_text s ≡ three c
  three_chosen z = rw (← e, ne_eqb c 0 z) at (chosen s)

pub scalar_place_lem : (p : ℕ) → 1 ≤ p → p < 39 → scalar_place (scalar_of (kind_at p)) ≡ cond (ltb p 21) ((p + 4) % 5) (3 + (p - 21) / 9)
unfolding kind_at below
scalar_place_lem zero low high = absurd (omega arith)
scalar_place_lem (suc q) low high =
    eqb-true _ _ (below_at (λ m. eqb (scalar_place (scalar_of (kind_at (suc m)))) (cond (ltb (suc m) 21) ((suc m + 4) % 5) (3 + (suc m - 21) / 9))) 38 q refl (omega arith))

-- ---- types

abbrev pub scalar_at : ℕ → List ℕ
scalar_at p = scalar_text (scalar_of (kind_at p))

abbrev pub angled : ℕ → List ℕ
angled p = bytes "<" ++ scalar_at p ++ bytes ">"

abbrev pub vector_head : ℕ → List ℕ
vector_head n = bytes "vec" ++ ((50 + n) ∷ [])

abbrev pub matrix_head : ℕ → ℕ → List ℕ
matrix_head c r = bytes "mat" ++ ((50 + c) ∷ byte "x" ∷ (50 + r) ∷ [])

abbrev type_text : ℕ → List ℕ
type_text p = cond (ltb p 6) (scalar_at p) (cond (ltb p 21) (vector_head ((p - 6) / 5) ++ angled p) (matrix_head ((p - 21) % 9 / 3) ((p - 21) % 3) ++ angled p))

pub angled_length : (p : ℕ) → length (angled p) ≡ 2 + length (scalar_at p)
angled_length p = omega (arith, length-append (scalar_at p) (bytes ">"))

module _ (p : ℕ) where
  by_place : 1 ≤ p → p < 39 → spelled (kind_at p) ≡ type_text p
  unfolding kind_at below same_bytes
  by_place low high = by p low high
    where
      by : (q : ℕ) → 1 ≤ q → q < 39 → spelled (kind_at q) ≡ type_text q
      by zero low high = absurd (omega arith)
      by (suc q) low high = same_true _ _ (below_at (λ m. same_bytes (spelled (kind_at (suc m))) (type_text (suc m))) 38 q refl (omega arith))

  pub scalar_text_lem : 1 ≤ p → p < 6 → spelled (kind_at p) ≡ scalar_at p
  scalar_text_lem low high = rw (lt-ltb p 6 high) at (by_place low (omega arith))

  pub vector_text_lem : 6 ≤ p → p < 21 → spelled (kind_at p) ≡ vector_head ((p - 6) / 5) ++ angled p
  vector_text_lem low high = rw (le-ltb p 6 low, lt-ltb p 21 high) at (by_place (omega arith) (omega arith))

  pub matrix_text_lem : 21 ≤ p → p < 39 → spelled (kind_at p) ≡ matrix_head ((p - 21) % 9 / 3) ((p - 21) % 3) ++ angled p
  matrix_text_lem low high = rw (le-ltb p 6 (omega arith), le-ltb p 21 low) at (by_place (omega arith) high)

-- ---- writes

module _ (p : ℕ) (low : 6 ≤ p) (high : p < 21) where
  pub vector_length : length (spelled (kind_at p)) ≡ 4 + length (angled p)
  vector_length = omega (arith, ap length (vector_text_lem p low high))

  pub vector_written : (o : List ℕ) {o1 o2 o3 : List ℕ} (at : ℕ) {b e : ℕ} → at + length (spelled (kind_at p)) ≤ length o → b ≡ 50 + (p - 6) / 5
      → o1 ≡ put o at (bytes "vec") → o2 ≡ put o1 (at + 3) (b ∷ []) → Made o2 (at + 4) (angled p) e o3 → Made o at (spelled (kind_at p)) e o3
  vector_written o at {b} room eb w1 w2 w3 =
      let l = vector_length in
      rw (vector_text_lem p low high, ← eb)
      (both_made o at (bytes "vec" ++ (b ∷ [])) (angled p) (omega (arith, l)) (both_made o at (bytes "vec") (b ∷ []) (omega (arith, l)) (refl, w1) (omega arith, w2)) w3)

module _ (p : ℕ) (low : 21 ≤ p) (high : p < 39) where
  pub matrix_length : length (spelled (kind_at p)) ≡ 6 + length (angled p)
  matrix_length = omega (arith, ap length (matrix_text_lem p low high))

  pub matrix_written : (o : List ℕ) {o1 o2 o3 : List ℕ} (at : ℕ) {c r e : ℕ} → at + length (spelled (kind_at p)) ≤ length o → c ≡ 50 + (p - 21) % 9 / 3 → r ≡ 50 + (p - 21) % 3
      → o1 ≡ put o at (bytes "mat") → o2 ≡ put o1 (at + 3) (c ∷ byte "x" ∷ r ∷ []) → Made o2 (at + 6) (angled p) e o3 → Made o at (spelled (kind_at p)) e o3
  matrix_written o at {c} {r} room ec er w1 w2 w3 =
      let l = matrix_length in
      let sizes = c ∷ byte "x" ∷ r ∷ [] in
      rw (matrix_text_lem p low high, ← ec, ← er)
      (both_made o at (bytes "mat" ++ sizes) (angled p) (omega (arith, l)) (both_made o at (bytes "mat") sizes (omega (arith, l)) (refl, w1) (omega arith, w2)) w3)
