-- Four lanes, cast as the program casts them, are the lanes that the bytes make: by the widths of the lanes, over their counts, which the equal byte sizes tie. Assumes nothing.
use Prim.Native.Nat.{ℕ, zero, suc, ◌*◌, ◌/◌, ◌%◌, ◌^◌, ◌≤◌, ◌<◌}
use mathlib.Core.Bool.{Bool, true, false, false≢true}
use mathlib.Core.List.{List, [], ◌∷◌, map-id}
use mathlib.Core.Path.{◌≡◌, refl, sym, ap, ◌∙◌}
use native.Mathlib.Omega.{arith}
use borrow.Author.Tests.{ltb-true, lt-ltb}
use lib.Dec.{ltb}
use lib.ListN.{length, take, length-take}
use Rattle.values.specs.declared.Scalar.{Scalar}
use Rattle.values.specs.declared.Scalar.TheVariants.{Boolean, I32, U32, F32, F16}
use Rattle.values.specs.declared.Kind.{Kind}
use Rattle.values.specs.declared.Kind.TheVariants.{Empty, One, Vec, Mat}
use Rattle.values.specs.declared.Value.{Value}
use Rattle.values.specs.Value.{lane_bits, scalar_of, lane_count, lanes_of, value}
use Rattle.values.specs.Program.{low, four, is_lanes}
use Rattle.values.proofs.Bools.{both, and}
use Rattle.values.proofs.Lanes.{few, lanes1_as}
use Rattle.values.proofs.Formed.{used_below, whole}
use Rattle.calls.specs.Table.{Numbers, among, taken}
use Rattle.calls.specs.Program.{PassedCast}
use Rattle.builtins.specs.Bitcast.{lane_bytes, bytes_of, of_bytes, bitcast_of}
use Rattle.moves.specs.Program.{halved, paired, paired_lane, recast}
use Rattle.arms.specs.Program.{is_half}
use Rattle.builtins.proofs.Packed.{value_lanes}
use Rattle.builtins.proofs.Bytes.{below, halves, to_halves, of_halves, lanes_again}

-- ---- four lanes

-- the bytes of a lane of 16 bits, or of 32
abbrev bytes : Bool → ℕ
bytes true = 2
bytes false = 4

pair_below : (x y : ℕ) → ltb (paired_lane x y) (2 ^ 32) ≡ true
pair_below x y = lt-ltb (paired_lane x y) (2 ^ 32) (omega arith)

pair_halves : (x y : ℕ) (zs : List ℕ) → below (2 ^ 16) (x ∷ y ∷ zs) ≡ true → (below (2 ^ 16) zs ≡ true) × ((paired_lane x y % 2 ^ 16 ≡ x) × (paired_lane x y / 2 ^ 16 ≡ y))
pair_halves x y zs t =
    let s = both (ltb x (2 ^ 16)) (below (2 ^ 16) (y ∷ zs)) t in
    let r = both (ltb y (2 ^ 16)) (below (2 ^ 16) zs) s.1 in
    let hx : x < 65536 = ltb-true x (2 ^ 16) s.0 in
    let hy : y < 65536 = ltb-true y (2 ^ 16) r.0 in
    (r.1, (omega arith, omega arith))

module _ (a b c d : ℕ) where
  abbrev lanes : List ℕ
  lanes = a ∷ b ∷ c ∷ d ∷ []

  few_length : (n : ℕ) → n ≤ 4 → length (take n lanes) ≡ n
  few_length n h = simp length-take (omega arith)

  kept_width : (k n m : ℕ) → n ≤ 4 → m ≡ n → below (2 ^ (k * 8)) (take n lanes) ≡ true → take m lanes ≡ of_bytes k m (bytes_of k (take n lanes))
  kept_width k n m h e t = rw e (sym (lanes_again k n (take n lanes) (few_length n h) t))

  to_narrow : (n m : ℕ) → m ≤ 4 → m * 2 ≡ n * 4 → below (2 ^ 32) (take n lanes) ≡ true → take m (halved lanes) ≡ of_bytes 2 m (bytes_of 4 (take n lanes))
  to_narrow zero m h e t = let z : m ≡ 0 = omega arith in rw z
  to_narrow (suc zero) m h e t = let z : m ≡ 2 = omega arith in rw z (sym (to_halves 2 (a ∷ []) refl t))
  to_narrow (suc (suc zero)) m h e t = let z : m ≡ 4 = omega arith in rw z (sym (to_halves 4 (a ∷ b ∷ []) refl t))
  to_narrow (suc (suc (suc n))) m h e t = absurd (omega arith)

  to_wide : (n m : ℕ) → n ≤ 4 → m * 4 ≡ n * 2 → below (2 ^ 16) (take n lanes) ≡ true → take m (paired lanes) ≡ of_bytes 4 m (bytes_of 2 (take n lanes))
  to_wide zero m h e t = let z : m ≡ 0 = omega arith in rw z
  to_wide (suc zero) m h e t = absurd (omega arith)
  to_wide (suc (suc zero)) m h e t =
      let z : m ≡ 1 = omega arith in
      let p = pair_halves a b [] t in
      let ys = paired_lane a b ∷ [] in
      let again : halves ys ≡ a ∷ b ∷ [] = rw (p.1.0, p.1.1) in
      rw z (sym (of_halves 1 ys refl (and (pair_below a b) refl)) ∙ ap (λ (l : List ℕ). of_bytes 4 1 (bytes_of 2 l)) again)
  to_wide (suc (suc (suc zero))) m h e t = absurd (omega arith)
  to_wide (suc (suc (suc (suc zero)))) m h e t =
      let z : m ≡ 2 = omega arith in
      let p = pair_halves a b (c ∷ d ∷ []) t in
      let q = pair_halves c d [] p.0 in
      let ys = paired_lane a b ∷ paired_lane c d ∷ [] in
      let again : halves ys ≡ lanes = rw (p.1.0, p.1.1, q.1.0, q.1.1) in
      rw z (sym (of_halves 2 ys refl (and (pair_below a b) (and (pair_below c d) refl))) ∙ ap (λ (l : List ℕ). of_bytes 4 2 (bytes_of 2 l)) again)
  to_wide (suc (suc (suc (suc (suc n))))) m h e t = absurd (omega arith)

  cast_four : (g h : Bool) (n m : ℕ) → n ≤ 4 → m ≤ 4 → m * bytes h ≡ n * bytes g → below (2 ^ (bytes g * 8)) (take n lanes) ≡ true
      → take m (recast g h lanes) ≡ of_bytes (bytes h) m (bytes_of (bytes g) (take n lanes))
  cast_four true true n m hn hm e t = kept_width 2 n m hn (omega arith) t
  cast_four true false n m hn hm e t = to_wide n m hn e t
  cast_four false true n m hn hm e t = to_narrow n m hm e t
  cast_four false false n m hn hm e t = kept_width 4 n m hn (omega arith) t

-- ---- values

in_lanes : (k : Kind) → taken Numbers k ≡ true → is_lanes k ≡ true
in_lanes (One s) t = refl
in_lanes (Vec n s) t = refl
in_lanes Empty t = absurd (false≢true t)
in_lanes (Mat c r w) t = absurd (false≢true t)

width : (s : Scalar) → among (I32 ∷ U32 ∷ F32 ∷ F16 ∷ []) s ≡ true → (lane_bits s / 8 ≡ bytes (is_half s)) × (2 ^ lane_bits s ≡ 2 ^ (bytes (is_half s) * 8))
width I32 t = (refl, refl)
width U32 t = (refl, refl)
width F32 t = (refl, refl)
width F16 t = (refl, refl)
width Boolean t = absurd (false≢true t)

widths : (k : Kind) → taken Numbers k ≡ true → (lane_bytes k ≡ bytes (is_half (scalar_of k))) × (2 ^ lane_bits (scalar_of k) ≡ 2 ^ (bytes (is_half (scalar_of k)) * 8))
widths (One s) t = width s t
widths (Vec n s) t = width s t
widths Empty t = absurd (false≢true t)
widths (Mat c r w) t = absurd (false≢true t)

module _ (t : Kind) (v : Value) (l : length v.lanes ≡ 16) (p : PassedCast Numbers t v) where
  is : is_lanes v.kind ≡ true
  is = in_lanes v.kind p.value.alone

  abbrev first : List ℕ
  first = take (lane_count v.kind) (four low v.lanes)

  first_length : length first ≡ lane_count v.kind
  first_length = few_length _ _ _ _ (lane_count v.kind) (few v.kind is)

  four_lanes : first ≡ lanes_of v
  four_lanes =
      sym (value_lanes v.kind first first_length)
      ∙ ap lanes_of (lanes1_as v.kind (λ x. x) v l p.value.formed is refl ∙ ap (value v.kind) (map-id (lanes_of v)) ∙ whole v p.value.formed l)

  pub cast_value : value t (take (lane_count t) (recast (is_half (scalar_of v.kind)) (is_half (scalar_of t)) (four low v.lanes))) ≡ bitcast_of t v
  unfolding bitcast_of
  cast_value =
      let k = v.kind in
      let g = is_half (scalar_of k) in
      let h = is_half (scalar_of t) in
      let wt = widths t p.target in
      let wk = widths k p.value.alone in
      let size : lane_count t * bytes h ≡ lane_count k * bytes g = sym (ap (λ (x : ℕ). lane_count t * x) wt.0) ∙ p.size ∙ ap (λ (x : ℕ). lane_count k * x) wk.0 in
      let under : below (2 ^ (bytes g * 8)) first ≡ true =
      ap (λ (x : ℕ). below x first) (sym wk.1) ∙ ap (below (2 ^ lane_bits (scalar_of k))) four_lanes ∙ used_below v p.value.formed in
      ap (value t)
      (cast_four _ _ _ _ g h (lane_count k) (lane_count t) (few k is) (few t (in_lanes t p.target)) size under
      ∙ ap (λ (x : ℕ). of_bytes x (lane_count t) (bytes_of (bytes g) first)) (sym wt.0)
      ∙ ap (λ (x : ℕ). of_bytes (lane_bytes t) (lane_count t) (bytes_of x first)) (sym wk.0)
      ∙ ap (λ (xs : List ℕ). of_bytes (lane_bytes t) (lane_count t) (bytes_of (lane_bytes k) xs)) four_lanes)
