-- Matrix types by their places, each rule one computed test over the types; and the lanes of a transposed matrix, one by one, by induction on their number. Assumes nothing.
use Prim.Native.Nat.{ℕ, zero, suc, ◌+◌, ◌-◌, ◌*◌, ◌/◌, ◌%◌, ◌<◌, ◌≤◌}
use mathlib.Core.Bool.{true, cond, false≢true}
use mathlib.Core.List.{List, [], ◌∷◌, ◌++◌, map}
use mathlib.Core.Path.{◌≡◌, refl, ap, sym, ◌∙◌}
use native.Mathlib.Nat.{mod-lt, mul_comm, suc-mul, mul-le-mul_right, div-lt_iff_lt-mul, add-zero, zero-add}
use native.Mathlib.Omega.{arith}
use borrow.Author.Tests.{eqb-true, leb-true, lt-ltb, le-ltb}
use lib.Dec.{eqb, leb, leb-suc-suc, ltb}
use lib.ListN.{length, get_or, replicate}
use Rattle.values.specs.declared.Kind.{Kind}
use Rattle.values.specs.declared.Kind.TheVariants.{Empty, One, Vec, Mat}
use Rattle.values.specs.declared.Value.{Value}
use Rattle.values.specs.Value.{lane_count, place, kind_at, lane, value}
use Rattle.values.proofs.Formed.{lanes_16}
use Rattle.words.specs.Words.{words_of}
use Rattle.places.proofs.Tables.{own_place}
use Rattle.calls.specs.Table.{matrix}
use Rattle.calls.proofs.Converse.{implied, from_implied}
use Rattle.moves.specs.Moves.{up_to, transposed_lanes, transposed, transpose_of}
use Rattle.moves.specs.Program.{columns_of, rows_of, turned_kind, column, columns, at, row, turned}

-- ---- types by their places

module _ (p : ℕ) (low : 20 < p) (high : p < 39) where
  of_matrix : matrix (kind_at p) ≡ true
  of_matrix = from_implied (λ k. ltb 20 (place k)) matrix refl (kind_at p) (lt-ltb 20 (place (kind_at p)) (rw (own_place p high) low))

  -- a number that is worked out of a matrix type's place, and one of the type
  by_place : (f : ℕ → ℕ) (g : Kind → ℕ) → implied matrix (λ k. eqb (f (place k)) (g k)) ≡ true → f p ≡ g (kind_at p)
  by_place f g i = rw (own_place p high) at (eqb-true (f (place (kind_at p))) (g (kind_at p)) (from_implied matrix (λ k. eqb (f (place k)) (g k)) i (kind_at p) of_matrix))

  pub columns_by : (p - 21) % 9 / 3 + 2 ≡ columns_of (kind_at p)
  columns_by = by_place (λ q. (q - 21) % 9 / 3 + 2) columns_of refl

  pub rows_by : (p - 21) % 3 + 2 ≡ rows_of (kind_at p)
  rows_by = by_place (λ q. (q - 21) % 3 + 2) rows_of refl

  pub turns : 21 + (p - 21) / 9 * 9 + (p - 21) % 3 * 3 + (p - 21) % 9 / 3 ≡ place (turned_kind (kind_at p))
  turns = by_place (λ q. 21 + (q - 21) / 9 * 9 + (q - 21) % 3 * 3 + (q - 21) % 9 / 3) (λ k. place (turned_kind k)) refl

module _ (k : Kind) (m : matrix k ≡ true) where
  pub some_columns : 1 ≤ columns_of k
  some_columns = leb-true 1 (columns_of k) (from_implied matrix (λ l. leb 1 (columns_of l)) refl k m)

  pub few_columns : columns_of k ≤ 4
  few_columns = leb-true (columns_of k) 4 (from_implied matrix (λ l. leb (columns_of l) 4) refl k m)

  pub few_rows : rows_of k ≤ 4
  few_rows = leb-true (rows_of k) 4 (from_implied matrix (λ l. leb (rows_of l) 4) refl k m)

  pub counted : lane_count k ≡ columns_of k * rows_of k
  counted = eqb-true (lane_count k) (columns_of k * rows_of k) (from_implied matrix (λ l. eqb (lane_count l) (columns_of l * rows_of l)) refl k m)

  pub sixteen : columns_of k * rows_of k ≤ 16
  sixteen = leb-true (columns_of k * rows_of k) 16 (from_implied matrix (λ l. leb (columns_of l * rows_of l) 16) refl k m)

-- ---- where a lane comes from

pub inside : (c r j : ℕ) → 1 ≤ c → j < c * r → j % c * r + j / c < c * r
inside c r j h l =
    let row : j / c < r = (div-lt_iff_lt-mul h).1 (rw (mul_comm r c) l) in
    omega (arith, row, mul-le-mul_right r (mod-lt j h), suc-mul (j % c) r)

-- ---- the columns, turned: a lane by its column and its row

four_of : {A : Type 0} (f : ℕ → A) (d : A) (i : ℕ) → i < 4 → get_or (f 0 ∷ f 1 ∷ f 2 ∷ f 3 ∷ []) i d ≡ f i
four_of f d zero h = refl
four_of f d (suc zero) h = refl
four_of f d (suc (suc zero)) h = refl
four_of f d (suc (suc (suc zero))) h = refl
four_of f d (suc (suc (suc (suc i)))) h = absurd (omega arith)

turned_at : (m : List (List ℕ)) (a b : ℕ) → a < 4 → b < 4 → at (turned m) a b ≡ at m b a
turned_at m a b h k = ap (λ (l : List ℕ). get_or l b 0) (four_of (row m) [] a h) ∙ four_of (λ c. at m c a) 0 b k

in_column : (w : List ℕ) (i a : ℕ) → a < 4 → get_or (column w i) a 0 ≡ get_or w (i + a) 0
in_column w i a h = ap (λ (j : ℕ). get_or (get_or w j 0 ∷ get_or w (i + 1) 0 ∷ get_or w (i + 2) 0 ∷ get_or w (i + 3) 0 ∷ []) a 0) (sym (add-zero i)) ∙ four_of (λ k. get_or w (i + k) 0) 0 a h

column_at : (w : List ℕ) (n b : ℕ) → b < 4 → get_or (columns n w) b [] ≡ column w (4 + b * n)
column_at w n zero h = let e : 4 ≡ 4 + 0 * n = omega arith in ap (column w) e
column_at w n (suc zero) h = let e : 4 + n ≡ 4 + 1 * n = omega arith in ap (column w) e
column_at w n (suc (suc zero)) h = refl
column_at w n (suc (suc (suc zero))) h = refl
column_at w n (suc (suc (suc (suc b)))) h = absurd (omega arith)

pub from_columns : (w : List ℕ) (r a b : ℕ) → a < 4 → b < 4 → at (turned (columns r w)) a b ≡ get_or w (4 + (b * r + a)) 0
from_columns w r a b h k =
    let e : 4 + b * r + a ≡ 4 + (b * r + a) = omega arith in
    turned_at (columns r w) a b h k ∙ ap (λ (l : List ℕ). get_or l a 0) (column_at w r b k) ∙ in_column w (4 + b * r) a h ∙ ap (λ (i : ℕ). get_or w i 0) e

nothing : (m j : ℕ) → get_or {A = ℕ} (replicate m 0) j 0 ≡ 0
nothing zero j = refl
nothing (suc m) zero = refl
nothing (suc m) (suc j) = nothing m j

-- lanes from s on, and zeros after them
listed : (f : ℕ → ℕ) (s n m j : ℕ) → get_or (map f (up_to s n) ++ replicate m 0) j 0 ≡ cond (ltb j n) (f (s + j)) 0
listed f s zero m j = rw (le-ltb j 0 (omega arith)) (nothing m j)
listed f s (suc n) m zero = rw (lt-ltb 0 (suc n) (omega arith), add-zero s)
listed f s (suc n) m (suc j) =
    let e : suc s + j ≡ s + suc j = omega arith in
    listed f (suc s) n m j ∙ rw (leb-suc-suc (suc j) n, e)

pub mapped_length : (f : ℕ → ℕ) (s n : ℕ) → length (map f (up_to s n)) ≡ n
mapped_length f s zero = refl
mapped_length f s (suc n) = ap suc (mapped_length f (suc s) n)

module _ (v : Value) (m : matrix v.kind ≡ true) where
  by_type : (k : Kind) → matrix k ≡ true → transposed k v ≡ value (turned_kind k) (transposed_lanes (columns_of k) (rows_of k) v)
  by_type (Mat c r w) h = refl
  by_type Empty h = absurd (false≢true h)
  by_type (One s) h = absurd (false≢true h)
  by_type (Vec n s) h = absurd (false≢true h)

  is : transpose_of v ≡ value (turned_kind v.kind) (transposed_lanes (columns_of v.kind) (rows_of v.kind) v)
  unfolding transpose_of
  is = by_type v.kind m

  pub turned_lane : (j : ℕ) → let c = columns_of v.kind in let r = rows_of v.kind in
      get_or (transpose_of v).lanes j 0 ≡ cond (ltb j (c * r)) (lane v (j % c * r + j / c)) 0
  unfolding value
  turned_lane j =
      let c = columns_of v.kind in
      let r = rows_of v.kind in
      ap (λ (u : Value). get_or u.lanes j 0) is ∙ listed (λ i. lane v (i % c * r + i / c)) 0 (c * r) (16 - length (transposed_lanes c r v)) j ∙ rw (zero-add j)

  pub turned_length : length (transpose_of v).lanes ≡ 16
  turned_length =
      ap (λ (u : Value). length u.lanes) is
      ∙ lanes_16 (turned_kind v.kind) (transposed_lanes (columns_of v.kind) (rows_of v.kind) v) (omega (arith, mapped_length (λ i. lane v (i % columns_of v.kind * rows_of v.kind + i / columns_of v.kind)) 0 (columns_of v.kind * rows_of v.kind), sixteen v.kind m))

  pub turned_words : words_of (transpose_of v) ≡ place (turned_kind v.kind) ∷ (transpose_of v).lanes
  unfolding value
  turned_words = ap (λ (u : Value). place u.kind ∷ (transpose_of v).lanes) is
