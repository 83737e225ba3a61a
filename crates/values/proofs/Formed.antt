-- What a well-formed value is: its lanes in use with zeros after them, each lane below its bound. The check of the lanes is that of Checked, whose laws carry over. Assumes nothing.
use Prim.Native.Nat.{ℕ, zero, suc, ◌-◌, ◌^◌, ◌<◌, ◌≤◌}
use mathlib.Core.Bool.{Bool, true, false, ◌&&◌, and_assoc}
use mathlib.Core.List.{List, [], ◌∷◌, ◌++◌}
use mathlib.Core.Path.{◌≡◌, refl, ap, sym, ◌∙◌}
use native.Mathlib.Omega.{arith}
use borrow.Author.Tests.{eqb-true}
use lib.Dec.{ltb, eqb}
use lib.ListN.{length, take, drop, replicate, take-append-drop, length-append, length-replicate}
use lib.Seq.{take_at, drop_at}
use Rattle.values.specs.Value.{lane_bits, lane_count, scalar_of, is_type, lanes_of, lane, value, empty_value, every, well_formed}
use Rattle.values.specs.declared.Kind.{Kind}
use Rattle.values.specs.declared.Scalar.{Scalar}
use Rattle.values.specs.declared.Scalar.TheVariants.{Boolean, I32, U32, F32, F16}
use Rattle.values.specs.declared.Value.{Value}
use Rattle.values.proofs.Bools.{both, and}
use Rattle.values.proofs.Checked.{checked, below}

abbrev bound : Value → ℕ
bound v = 2 ^ lane_bits (scalar_of v.kind)

abbrev checks : Value → Bool
checks v = checked (lane_count v.kind) (bound v) v.lanes

-- well formed, in the order in which the code looks
parts : (v : Value) → well_formed v ≡ is_type v.kind && checks v
unfolding well_formed checked
parts v = and_assoc (is_type v.kind) (every (λ x. ltb x (bound v)) (lanes_of v)) (every (λ x. eqb x 0) (drop (lane_count v.kind) v.lanes))

-- the parts as a program has them, in variables of its own
pub judged : (v : Value) {t ok : Bool} {n b : ℕ} {s : Scalar} → t ≡ is_type v.kind → n ≡ lane_count v.kind → s ≡ scalar_of v.kind → b ≡ 2 ^ lane_bits s
    → ok ≡ every (λ x. ltb x b) (take n v.lanes) && every (λ x. eqb x 0) (drop n v.lanes) → t && ok ≡ well_formed v
unfolding checked
judged v et en es eb eo = rw (et, eo, eb, es, en) (sym (parts v))

module _ (v : Value) (w : well_formed v ≡ true) where
  pub is_type_lem : is_type v.kind ≡ true
  is_type_lem = (both (is_type v.kind) (checks v) (sym (parts v) ∙ w)).0

  checks_true : checks v ≡ true
  checks_true = (both (is_type v.kind) (checks v) (sym (parts v) ∙ w)).1

  pub used_below : every (λ x. ltb x (2 ^ lane_bits (scalar_of v.kind))) (lanes_of v) ≡ true
  unfolding checked
  used_below = (both (every (λ x. ltb x (bound v)) (lanes_of v)) (every (λ x. eqb x 0) (drop (lane_count v.kind) v.lanes)) checks_true).0

  unused_zero : every (λ x. eqb x 0) (drop (lane_count v.kind) v.lanes) ≡ true
  unfolding checked
  unused_zero = (both (every (λ x. ltb x (bound v)) (lanes_of v)) (every (λ x. eqb x 0) (drop (lane_count v.kind) v.lanes)) checks_true).1

bits : (s : Scalar) → (0 < 2 ^ lane_bits s) × (2 ^ lane_bits s ≤ 2 ^ 32)
bits Boolean = (omega arith, omega arith)
bits I32 = (omega arith, omega arith)
bits U32 = (omega arith, omega arith)
bits F32 = (omega arith, omega arith)
bits F16 = (omega arith, omega arith)

-- each lane, in use or not, is below the bound of the value's scalar
pub lane_below : (v : Value) → well_formed v ≡ true → (i : ℕ) → lane v i < 2 ^ lane_bits (scalar_of v.kind)
lane_below v w i = below (lane_count v.kind) (bound v) v.lanes i (bits (scalar_of v.kind)).0 (checks_true v w)

pub lane_narrow : (v : Value) → well_formed v ≡ true → (i : ℕ) → lane v i < 2 ^ 32
lane_narrow v w i = omega (arith, lane_below v w i, (bits (scalar_of v.kind)).1)

zeros : (xs : List ℕ) → every (λ x. eqb x 0) xs ≡ true → replicate (length xs) 0 ≡ xs
zeros [] t = refl
zeros (x ∷ xs) t =
    let ts = both (eqb x 0) (every (λ y. eqb y 0) xs) t in
    cc (eqb-true x 0 ts.0, zeros xs ts.1)

all_zero : (n : ℕ) → every (λ x. eqb x 0) (replicate n 0) ≡ true
all_zero zero = refl
all_zero (suc n) = all_zero n

-- a well-formed value is its type with its lanes in use
pub whole : (v : Value) → well_formed v ≡ true → length v.lanes ≡ 16 → value v.kind (lanes_of v) ≡ v
unfolding value
whole v w h =
    let n = lane_count v.kind in
    let split = take-append-drop n v.lanes in
    let e : 16 - length (take n v.lanes) ≡ length (drop n v.lanes) = omega (arith, ap length split, length-append (take n v.lanes) (drop n v.lanes)) in
    ap (λ (l : List ℕ). record { kind = v.kind; lanes = l })
    (ap (λ (m : ℕ). take n v.lanes ++ replicate m 0) e ∙ ap (λ (l : List ℕ). take n v.lanes ++ l) (zeros _ (unused_zero v w)) ∙ split)

-- a type with lanes below its bound is well formed
pub formed : (k : Kind) (xs : List ℕ) → is_type k ≡ true → length xs ≡ lane_count k → every (λ x. ltb x (2 ^ lane_bits (scalar_of k))) xs ≡ true → well_formed (value k xs) ≡ true
unfolding value well_formed
formed k xs t e b =
    and (and t (rw (take_at xs _ (lane_count k) e) b)) (rw (drop_at xs _ (lane_count k) e) (all_zero (16 - length xs)))

pub lanes_16 : (k : Kind) (xs : List ℕ) → length xs ≤ 16 → length (value k xs).lanes ≡ 16
unfolding value
lanes_16 k xs h = omega (arith, length-append xs (replicate (16 - length xs) 0), length-replicate (16 - length xs) zero)

pub empty_not_formed : well_formed empty_value ≡ false
unfolding well_formed empty_value
empty_not_formed = refl
