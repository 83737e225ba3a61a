-- What an arm works out of four lanes is the definition's answer, of the builtins that do more than act lane by lane: all and any, frexp, the packers and the unpackers, bitcast, cross and dot. One
-- law for each shape, by the laws of four lanes. Assumes nothing.
use Prim.Native.Nat.{ℕ, ◌-◌, ◌%◌, ◌^◌, min}
use mathlib.Core.Bool.{Bool, true, not, false≢true}
use mathlib.Core.List.{List, map}
use mathlib.Core.Path.{◌≡◌, refl, sym, ap, ◌∙◌}
use native.Mathlib.Omega.{arith}
use lib.Dec.{eqb}
use lib.ListN.{length, take, get_or}
use lib.Seq.{length-take-le}
use Rattle.readings.specs.declared.Reading.{Reading}
use Rattle.readings.specs.declared.Reading.TheVariants as In
use Rattle.values.specs.declared.Scalar.{Scalar}
use Rattle.values.specs.declared.Scalar.TheVariants.{Boolean, I32, U32, F32}
use Rattle.values.specs.declared.Size.{Size}
use Rattle.values.specs.declared.Size.TheVariants.{Two, Three, Four}
use Rattle.values.specs.declared.Kind.{Kind}
use Rattle.values.specs.declared.Kind.TheVariants.{Empty, One, Vec, Mat}
use Rattle.values.specs.declared.Value.{Value}
use Rattle.values.specs.Value.{size_of, scalar_of, lane_count, shaped, place, kind_at, lanes_of, lane, value, empty_value, every, well_formed, flag}
use Rattle.values.specs.Program.{low, four, is_lanes}
use Rattle.values.proofs.Lanes.{few, lanes1, lanes1_as}
use Rattle.values.proofs.Places.{there}
use Rattle.products.specs.Products.{dot_lane}
use Rattle.numeric.specs.Parts.{parts, joined}
use Rattle.exponent.specs.Exponent.{fraction_lane, exponent_lane}
use Rattle.calls.specs.Table.{Numbers, Only}
use Rattle.calls.specs.Program.{Passed, PassedCast}
use Rattle.builtins.specs.Logical.{all_of, any_of}
use Rattle.builtins.specs.Numeric.{cross_of, dot_of}
use Rattle.builtins.specs.Exponent.{fraction_of, exponent_of}
use Rattle.builtins.specs.Bitcast.{bitcast_of}
use Rattle.losses.specs.Losses.{largest, loss_number, loss_of}
use Rattle.half.specs.Convert.{half_of}
use Rattle.builtins.specs.Pack.{filled, word, packed, unpacked, packed_clamped, loss_in}
use Rattle.builtins.specs.Fold.{answered, answered_twice, answered_losing}
use Rattle.moves.specs.Program.{recast}
use Rattle.arms.specs.Program.{cut_of, is_half, given, given_one, given_two, given_word, cross_four}
use Rattle.packing.specs.Lanes.{clamped_i8}
use Rattle.packing.specs.Program.{fill_four, clamp_four}
use Rattle.builtins.specs.Program.{answer_in}
use Rattle.builtins.proofs.Casting.{cast_value}
use Rattle.builtins.proofs.Packed.{value_lanes, packs, codes, uncut}
use Rattle.builtins.proofs.Products.{cross_is, dot_is}
use Rattle.builtins.proofs.AgreeLanes.{by_type, by_scalar_type, held}

same_count : (k : Kind) → is_lanes k ≡ true → lane_count (shaped I32 k) ≡ lane_count k
same_count (One s) t = refl
same_count (Vec n s) t = refl
same_count Empty t = refl
same_count (Mat c r w) t = absurd (false≢true t)

byte : (x : ℕ) → x % 2 ^ 32 % 2 ^ 8 ≡ x % 2 ^ 8
byte x = omega arith

-- ---- words: of the lanes that f makes codes of w bits of, and of lanes that fill those above them

module _ (ok : Bool) (a : Value) where
  pub agree_pack : (m : Size) (s : Scalar) (w : ℕ) (f : ℕ → ℕ) → length a.lanes ≡ 16 → Passed (Only (Vec m s)) a
      → answer_in (given_one ok 3 (joined w (take (size_of m) (four f (cut_of a))))) ≡ answered (packed w f a)
  agree_pack m s w f la p = by_scalar_type ok U32 _ ∙ ap answered (packs m s w f a la p)

  -- halves, and what they lost
  pub agree_halves : length a.lanes ≡ 16 → Passed (Only (Vec Two F32)) a
      → answer_in (given_word ok (joined 16 (take 2 (four half_of (cut_of a)))) (largest (take 2 (four (λ x. loss_number (loss_of x)) (cut_of a))))) ≡ answered_losing (loss_in a) (packed 16 half_of a)
  unfolding answered_losing loss_in kind_at value empty_value
  agree_halves la p =
      rw (← codes Two F32 16 (λ x. loss_number (loss_of x)) a la p)
      (ap (λ (v : Value). answered_losing (largest (take 2 (four (λ x. loss_number (loss_of x)) (cut_of a)))) v) (packs Two F32 16 half_of a la p))

  fill_is : fill_four (cut_of a) ≡ filled a
  unfolding filled
  fill_is = rw (byte (lane a 0), byte (lane a 1), byte (lane a 2), byte (lane a 3))

  pub agree_clamped : (R : Reading) → length a.lanes ≡ 16 → Passed (Only (Vec Four I32)) a → answer_in (given_one ok 3 (clamp_four R (cut_of a))) ≡ answered (packed_clamped R a)
  agree_clamped In.Crate la p = by_scalar_type ok U32 _ ∙ ap (λ (x : ℕ). answered (word x)) fill_is
  agree_clamped In.Text la p = agree_pack Four I32 8 clamped_i8 la p

  -- ---- lanes of a word: f of each of its m parts of w bits

  pub agree_unpack : (w m : ℕ) (f : ℕ → ℕ) (k : Kind) (x : List ℕ) → well_formed a ≡ true → take (lane_count k) x ≡ map f (parts w m (low (lane a 0)))
      → answer_in (given ok (place k) x) ≡ answered (unpacked w m f k a)
  unfolding unpacked
  agree_unpack w m f k x fa lanes =
      by_type ok k (λ l. x) ∙ ap (λ (l : List ℕ). answered (value k l)) lanes ∙ ap (λ (y : ℕ). answered (value k (map f (parts w m y)))) (uncut a fa)

  -- ---- a value and a type

  pub agree_bitcast : (t : ℕ) → length a.lanes ≡ 16 → PassedCast Numbers (kind_at t) a
      → answer_in (given ok (place (kind_at t)) (recast (is_half (scalar_of (kind_at (place a.kind)))) (is_half (scalar_of (kind_at t))) (cut_of a))) ≡ answered (bitcast_of (kind_at t) a)
  agree_bitcast t la q =
      rw (there a.kind)
      (by_type ok (kind_at t) (λ l. recast (is_half (scalar_of a.kind)) (is_half (scalar_of (kind_at t))) (cut_of a)) ∙ ap answered (cast_value (kind_at t) a la q))

  -- ---- two values of one type

  module _ (b : Value) (fa : well_formed a ≡ true) (fb : well_formed b ≡ true) where
    pub agree_cross : a.kind ≡ Vec Three F32 → answer_in (given ok (place a.kind) (cross_four (cut_of a) (cut_of b))) ≡ answered (cross_of a b)
    agree_cross k = by_type ok a.kind (λ l. cross_four (cut_of a) (cut_of b)) ∙ ap answered (cross_is a b fa fb k)

    pub agree_dot : is_lanes a.kind ≡ true → let k = kind_at (place a.kind) in
        answer_in (given_one ok (place (One (scalar_of k))) (dot_lane (scalar_of k) (λ i. get_or (cut_of a) i 0) (λ i. get_or (cut_of b) i 0) (min (lane_count k) 4 - 1))) ≡ answered (dot_of a b)
    agree_dot is = rw (there a.kind) (by_scalar_type ok (scalar_of a.kind) _ ∙ ap answered (dot_is a b fa fb is))

-- ---- all, any and frexp

module _ (ok : Bool) (a : Value) (la : length a.lanes ≡ 16) (is : is_lanes a.kind ≡ true) (fa : well_formed a ≡ true) where
  -- the four lanes hold those in use
  used : take (lane_count a.kind) (cut_of a) ≡ lanes_of a
  used = sym (value_lanes a.kind _ (length-take-le (lane_count a.kind) (cut_of a) (few a.kind is))) ∙ ap lanes_of (held a la fa is)

  pub agree_all : answer_in (given_one ok 1 (flag (every (λ y. eqb y 1) (take (lane_count (kind_at (place a.kind))) (cut_of a))))) ≡ answered (all_of a)
  unfolding all_of
  agree_all = rw (there a.kind, used) (by_scalar_type ok Boolean _)

  pub agree_any : answer_in (given_one ok 1 (flag (not (every (λ y. eqb y 0) (take (lane_count (kind_at (place a.kind))) (cut_of a)))))) ≡ answered (any_of a)
  unfolding any_of
  agree_any = rw (there a.kind, used) (by_scalar_type ok Boolean _)

  fractions : value a.kind (take (lane_count a.kind) (four (fraction_lane (scalar_of a.kind)) (cut_of a))) ≡ fraction_of a
  unfolding fraction_of
  fractions = lanes1 (fraction_lane (scalar_of a.kind)) a la fa is

  exponents : let l = shaped I32 a.kind in value l (take (lane_count l) (four (exponent_lane (scalar_of a.kind)) (cut_of a))) ≡ exponent_of a
  unfolding exponent_of
  exponents = lanes1_as (shaped I32 a.kind) (exponent_lane (scalar_of a.kind)) a la fa is (same_count a.kind is)

  pub agree_frexp : let k = kind_at (place a.kind) in
      answer_in (given_two ok (place a.kind) (four (fraction_lane (scalar_of k)) (cut_of a)) (place (shaped I32 k)) (four (exponent_lane (scalar_of k)) (cut_of a))) ≡ answered_twice (fraction_of a) (exponent_of a)
  unfolding answered_twice
  agree_frexp = rw (there a.kind, there (shaped I32 a.kind), fractions, exponents)
