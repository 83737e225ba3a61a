-- Values that are well formed by what they are made of: a type with as many lanes as it has, each below its scalar's bound. What acts lane by lane is made of four lanes, a word of codes
-- joined or of numbers of 32 bits, the lanes of a word or of bytes of its parts. Assumes nothing.
use Prim.Native.Nat.{ℕ, zero, suc, ◌*◌, ◌^◌, ◌≤◌, ◌<◌}
use mathlib.Core.Bool.{Bool, true, false≢true, cond}
use mathlib.Core.List.{List, [], ◌∷◌, map}
use mathlib.Core.Path.{◌≡◌, refl, ap, subst, ◌∙◌}
use native.Mathlib.Nat.{mod-lt, mod-eq_of_lt, mul_comm, mul-le-mul_right, suc-mul}
use native.Mathlib.Omega.{arith}
use borrow.Author.Tests.{eqb-true, ltb-true, lt-ltb}
use lib.Bits.{or_lt}
use lib.Dec.{lit<, ltb, eqb}
use lib.ListN.{length, take, drop, length-map, length-take}
use lib.Pow.{pow_pos, pow-add}
use lib.Seq.{length-take-le}
use Rattle.values.specs.declared.Scalar.{Scalar}
use Rattle.values.specs.declared.Scalar.TheVariants.{I32, U32}
use Rattle.values.specs.declared.Size.{Size}
use Rattle.values.specs.declared.Kind.{Kind}
use Rattle.values.specs.declared.Kind.TheVariants.{Empty, One, Vec, Mat}
use Rattle.values.specs.declared.Value.{Value}
use Rattle.values.specs.Value.{lane_bits, size_of, of_width, scalar_of, lane_count, is_type, shaped, kinds, lanes_of, lane, value, lanewise, lanewise2, lanewise3, Formed}
use Rattle.values.specs.Program.{low, is_lanes}
use Rattle.values.proofs.Bools.{both, and}
use Rattle.values.proofs.Formed.{is_type_lem, lane_below, lane_narrow, formed, lanes_16}
use Rattle.values.proofs.Lanes.{few, lanes1_as, lanes1, lanes2, lanes3}
use Rattle.values.proofs.Places.{same, all, each, lanes_at_most_16}
use Rattle.numeric.specs.Parts.{parts, joined}
use Rattle.calls.specs.Table.{Numbers, Only, taken}
use Rattle.calls.specs.Program.{Passed}
use Rattle.builtins.specs.Bitcast.{lane_bytes, bytes_of, of_bytes, bitcast_of}
use Rattle.moves.specs.Moves.{up_to, transposed}
use Rattle.builtins.specs.Pack.{filling, filled, word, packed, unpacked}
use Rattle.builtins.proofs.Bytes.{below}
use Rattle.builtins.proofs.Parts.{length_parts}
use Rattle.moves.proofs.Transposing.{mapped_length}
use Rattle.formats.proofs.Codes.{parts_below}
use Rattle.formats.proofs.LaneLaws.{Coding, Laws}
use Rattle.formed.proofs.Bytes.{below_split, bytes_below, lanes_length}
use Rattle.formed.proofs.LaneBounds.{bound}

pub made : (k : Kind) (xs : List ℕ) → is_type k ≡ true → length xs ≡ lane_count k → below (bound (scalar_of k)) xs ≡ true → Formed (value k xs)
made k xs t e b = record { good = formed k xs t e b; lanes = lanes_16 k xs (omega (arith, lanes_at_most_16 k)) }

pub one_lane : (s : Scalar) (x : ℕ) → x < bound s → Formed (value (One s) (x ∷ []))
one_lane s x h = made (One s) (x ∷ []) refl refl (and (lt-ltb x (bound s) h) refl)

-- each type of which p holds is one of which q holds: one computed test
abbrev pub Within : (Kind → Bool) → (Kind → Bool) → Type 0
Within p q = all (λ k. cond (p k) (q k) true) (Empty ∷ kinds) ≡ true

pub within : (p q : Kind → Bool) → Within p q → (k : Kind) → p k ≡ true → q k ≡ true
within p q w k t = rw t at (each (λ l. cond (p l) (q l) true) w k)

-- lanes of 32 bits
abbrev pub is_wide : Kind → Bool
is_wide k = eqb (lane_bits (scalar_of k)) 32

pub wide : (p : Kind → Bool) → Within p is_wide → (k : Kind) → p k ≡ true → lane_bits (scalar_of k) ≡ 32
wide p w k t = eqb-true (lane_bits (scalar_of k)) 32 (within p is_wide w k t)

mapped_below : (f : ℕ → ℕ) (d : ℕ) → ((x : ℕ) → f x < d) → (xs : List ℕ) → below d (map f xs) ≡ true
mapped_below f d h [] = refl
mapped_below f d h (x ∷ xs) = and (lt-ltb (f x) d (h x)) (mapped_below f d h xs)

-- ---- lane by lane

of_four : (k : Kind) → is_type k ≡ true → is_lanes k ≡ true → (x : ℕ → ℕ) → ((i : ℕ) → x i < bound (scalar_of k)) → Formed (value k (take (lane_count k) (x 0 ∷ x 1 ∷ x 2 ∷ x 3 ∷ [])))
of_four k t is x h =
    let b = bound (scalar_of k) in
    let lanes = x 0 ∷ x 1 ∷ x 2 ∷ x 3 ∷ [] in
    let under : (i : ℕ) → ltb (x i) b ≡ true = λ i. lt-ltb (x i) b (h i) in
    made k (take (lane_count k) lanes) t (length-take-le (lane_count k) lanes (few k is)) (below_split b (lane_count k) lanes (and (under 0) (and (under 1) (and (under 2) (and (under 3) refl))))).0

-- the lanes that come in
cut_below : (v : Value) → Formed v → (i : ℕ) → low (lane v i) < bound (scalar_of v.kind)
cut_below v h i = rw (mod-eq_of_lt (lane_narrow v h.good i)) (lane_below v h.good i)

module _ (u : Value) (fu : Formed u) (is : is_lanes u.kind ≡ true) where
  pub each1 : (f : ℕ → ℕ) → ((x : ℕ) → x < bound (scalar_of u.kind) → f x < bound (scalar_of u.kind)) → Formed (lanewise f u)
  each1 f h =
      subst Formed (lanes1 f u fu.lanes fu.good is)
      (of_four u.kind (is_type_lem u fu.good) is (λ i. f (low (lane u i))) (λ i. h _ (cut_below u fu i)))

  module _ (v : Value) (fv : Formed v) where
    pub each2 : (f : ℕ → ℕ → ℕ) → ((x y : ℕ) → x < bound (scalar_of u.kind) → y < bound (scalar_of v.kind) → f x y < bound (scalar_of u.kind)) → Formed (lanewise2 f u v)
    each2 f h =
        subst Formed (lanes2 f u v fu.lanes fv.lanes fu.good fv.good is)
        (of_four u.kind (is_type_lem u fu.good) is (λ i. f (low (lane u i)) (low (lane v i))) (λ i. h _ _ (cut_below u fu i) (cut_below v fv i)))

    pub each3 : (w : Value) → Formed w → (f : ℕ → ℕ → ℕ → ℕ)
        → ((x y z : ℕ) → x < bound (scalar_of u.kind) → y < bound (scalar_of v.kind) → z < bound (scalar_of w.kind) → f x y z < bound (scalar_of u.kind)) → Formed (lanewise3 f u v w)
    each3 w fw f h =
        subst Formed (lanes3 f u v w fu.lanes fv.lanes fw.lanes fu.good fv.good fw.good is)
        (of_four u.kind (is_type_lem u fu.good) is (λ i. f (low (lane u i)) (low (lane v i)) (low (lane w i))) (λ i. h _ _ _ (cut_below u fu i) (cut_below v fv i) (cut_below w fw i)))

-- integers in the shape of a value
record Shape (k : Kind) : Type 0 where
  type : is_type (shaped I32 k) ≡ true
  lanes : is_lanes (shaped I32 k) ≡ true
  count : lane_count (shaped I32 k) ≡ lane_count k
  scalar : scalar_of (shaped I32 k) ≡ I32

shape : (k : Kind) → is_lanes k ≡ true → Shape k
shape (One s) t = record { type = refl; lanes = refl; count = refl; scalar = refl }
shape (Vec n s) t = record { type = refl; lanes = refl; count = refl; scalar = refl }
shape Empty t = absurd (false≢true t)
shape (Mat c r w) t = absurd (false≢true t)

pub integers : (f : ℕ → ℕ) (v : Value) → Formed v → is_lanes v.kind ≡ true → ((x : ℕ) → f x < 2 ^ 32) → Formed (value (shaped I32 v.kind) (map f (lanes_of v)))
integers f v fv is h =
    let s = shape v.kind is in
    subst Formed (lanes1_as (shaped I32 v.kind) f v fv.lanes fv.good is s.count)
    (of_four (shaped I32 v.kind) s.type s.lanes (λ i. f (low (lane v i))) (λ i. rw s.scalar (h _)))

-- ---- transpose

pub transposed_formed : (k : Kind) (v : Value) → v.kind ≡ k → Formed v → Formed (transposed k v)
transposed_formed Empty v e h = h
transposed_formed (One s) v e h = h
transposed_formed (Vec n s) v e h = h
transposed_formed (Mat c r w) v e h =
    let under : (i : ℕ) → lane v i < bound (of_width w) = rw e at (lane_below v h.good) in
    made (Mat r c w) _ refl (mapped_length _ 0 (size_of c * size_of r) ∙ mul_comm (size_of c) (size_of r)) (mapped_below _ _ (λ j. under _) (up_to 0 (size_of c * size_of r)))

-- ---- words and bytes

joined_below : (w n : ℕ) (xs : List ℕ) → length xs ≤ n → below (2 ^ w) xs ≡ true → joined w xs < 2 ^ (n * w)
joined_below w n [] h t = pow_pos (n * w)
joined_below w zero (x ∷ xs) h t = absurd (omega arith)
joined_below w (suc n) (x ∷ xs) h t =
    let s = both (ltb x (2 ^ w)) (below (2 ^ w) xs) t in
    let j = joined w xs in
    let rest : j < 2 ^ (n * w) = joined_below w n xs (omega arith) s.1 in
    omega (arith, ltb-true x (2 ^ w) s.0, mul-le-mul_right (2 ^ w) rest, suc-mul j (2 ^ w), mul_comm (2 ^ w) j, pow-add 2 (n * w) w, ap (λ (k : ℕ). 2 ^ k) (suc-mul n w))

module _ {c : Coding} (l : Laws c) (n : Size) (s : Scalar) (v : Value) where
  pub packed_formed : size_of n * c.width ≡ 32 → Passed (Only (Vec n s)) v → Formed (packed c.width c.code v)
  unfolding packed
  packed_formed e p =
      let codes = map c.code (lanes_of v) in
      let most : length codes ≤ size_of n = omega (arith, length-map (lanes_of v) c.code, length-take (lane_count v.kind) v.lanes, ap lane_count (same {k = v.kind} {l = Vec n s} p.alone)) in
      one_lane U32 (joined c.width codes) (rw e at (joined_below c.width (size_of n) codes most (mapped_below c.code (2 ^ c.width) l.below (lanes_of v))))

  pub unpacked_formed : c.count ≡ size_of n → lane_bits s ≡ 32 → Formed (unpacked c.width c.count c.lane (Vec n s) v)
  unfolding unpacked
  unpacked_formed e b =
      made (Vec n s) _ refl (length-map (parts c.width c.count (lane v 0)) c.lane ∙ length_parts c.width c.count (lane v 0) ∙ e)
      (rw b (parts_below c.width (2 ^ 32) c.lane l.narrow c.count (lane v 0)))

pub filled_formed : (v : Value) → Formed (word (filled v))
unfolding filled
filled_formed v =
    let cut : (i : ℕ) → filling v i < 2 ^ 32 = λ i. mod-lt _ (lit< tt) in
    one_lane U32 _ (or_lt 32 _ _ (or_lt 32 _ _ (or_lt 32 _ _ (cut 0) (cut 1)) (cut 2)) (cut 3))

of_bytes_below : (k n : ℕ) (bs : List ℕ) → below (2 ^ 8) bs ≡ true → below (2 ^ (k * 8)) (of_bytes k n bs) ≡ true
of_bytes_below k zero bs t = refl
of_bytes_below k (suc n) bs t =
    let s = below_split (2 ^ 8) k bs t in
    and (lt-ltb (joined 8 (take k bs)) (2 ^ (k * 8)) (joined_below 8 k (take k bs) (simp length-take (omega arith)) s.0)) (of_bytes_below k n (drop k bs) s.1)

pub whole_bytes : (k : Kind) → taken Numbers k ≡ true → lane_bytes k * 8 ≡ lane_bits (scalar_of k)
whole_bytes k t = eqb-true (lane_bytes k * 8) (lane_bits (scalar_of k)) (within (taken Numbers) (λ l. eqb (lane_bytes l * 8) (lane_bits (scalar_of l))) refl k t)

pub bitcast_formed : (t : Kind) (v : Value) → is_type t ≡ true → taken Numbers t ≡ true → Formed (bitcast_of t v)
unfolding bitcast_of
bitcast_formed t v is n =
    let bytes = bytes_of (lane_bytes v.kind) (lanes_of v) in
    made t _ is (lanes_length (lane_bytes t) (lane_count t) bytes) (rw (whole_bytes t n) at (of_bytes_below (lane_bytes t) (lane_count t) bytes (bytes_below (lane_bytes v.kind) (lanes_of v))))
