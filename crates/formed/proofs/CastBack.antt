-- bitcast there and back is the value again. A cast that is not refused has passed every test of its row; what it gives is well formed and of the type asked for, so the cast back passes them too,
-- the two types having changed places. There and back is then `bitcast_of` twice, which is the value: the bytes of one are the bytes of the other. Assumes nothing.
use Prim.Native.Nat.{ℕ, ◌*◌, ◌^◌}
use mathlib.Core.Bool.{true}
use mathlib.Core.List.{List}
use mathlib.Core.Path.{◌≡◌, sym, ap, ◌∙◌}
use native.Mathlib.Omega.{arith}
use borrow.Author.Tests.{eq-eqb}
use lib.ListN.{length}
use lib.Seq.{length-take-le}
use Rattle.readings.specs.declared.Reading.{Reading}
use Rattle.values.specs.declared.Kind.{Kind}
use Rattle.values.specs.declared.Value.{Value}
use Rattle.values.specs.Value.{lane_count, lanes_of, value, empty_value}
use Rattle.values.proofs.Formed.{is_type_lem, used_below, whole}
use Rattle.values.proofs.Places.{lanes_at_most_16}
use Rattle.calls.specs.declared.Builtin.TheVariants.{Bitcast}
use Rattle.calls.specs.Table.{Numbers, Cast}
use Rattle.calls.specs.Refuse.{byte_size, judged}
use Rattle.calls.specs.Program.{PassedCast}
use Rattle.calls.proofs.Passed.{cast}
use Rattle.builtins.specs.declared.Answer.{Answer}
use Rattle.builtins.specs.Bitcast.{lane_bytes, bytes_of, of_bytes, bitcast_of}
use Rattle.builtins.specs.Fold.{answered}
use Rattle.builtins.proofs.Bytes.{below, lanes_again}
use Rattle.builtins.proofs.Folded.{folds, unrefused}
use Rattle.builtins.proofs.Packed.{value_lanes}
use Rattle.formed.specs.Casts.{call_cast, casting, ThereAndBack}
use Rattle.formed.proofs.Bytes.{bytes_length, bytes_below, lanes_length, bytes_again}
use Rattle.formed.proofs.Values.{whole_bytes, bitcast_formed}

-- ---- the bytes there and back

module _ (t : Kind) (v : Value) (l : length v.lanes ≡ 16) (p : PassedCast Numbers t v) where
  there_and_back : bitcast_of v.kind (bitcast_of t v) ≡ v
  unfolding bitcast_of value
  there_and_back =
      let k = v.kind in
      let xs = lanes_of v in
      let bytes-there = bytes_of (lane_bytes k) xs in
      let n : length xs ≡ lane_count k = length-take-le (lane_count k) v.lanes (omega (arith, lanes_at_most_16 k)) in
      let count : length bytes-there ≡ lane_count t * lane_bytes t = bytes_length (lane_bytes k) xs ∙ ap (λ (m : ℕ). m * lane_bytes k) n ∙ sym p.size in
      let under : below (2 ^ (lane_bytes k * 8)) xs ≡ true = rw (whole_bytes k p.value.alone) (used_below v p.value.formed) in
      ap (λ (ys : List ℕ). value k (of_bytes (lane_bytes k) (lane_count k) (bytes_of (lane_bytes t) ys)))
      (value_lanes t (of_bytes (lane_bytes t) (lane_count t) bytes-there) (lanes_length (lane_bytes t) (lane_count t) bytes-there))
      ∙ ap (λ (ys : List ℕ). value k (of_bytes (lane_bytes k) (lane_count k) ys)) (bytes_again (lane_bytes t) (lane_count t) bytes-there count (bytes_below (lane_bytes k) xs))
      ∙ ap (value k) (lanes_again (lane_bytes k) (lane_count k) xs n under)
      ∙ whole v p.value.formed l

-- ---- the calls

passed : (R : Reading) (t : Kind) (v : Value) → (casting R t v).refusal ≡ 0 → PassedCast Numbers t v
passed R t v r = cast 2 t v empty_value empty_value Numbers (unrefused R (call_cast t v) r)

module _ (R : Reading) (t : Kind) (v : Value) (p : PassedCast Numbers t v) where
  passes : judged (Cast Numbers) 2 t v empty_value empty_value ≡ 0
  unfolding judged
  passes = rw (p.type, p.value.formed, p.target, p.value.alone, eq-eqb (byte_size t) (byte_size v.kind) p.size)

  casts : casting R t v ≡ answered (bitcast_of t v)
  casts = folds R Bitcast 2 t v empty_value empty_value passes

  back : PassedCast Numbers v.kind (bitcast_of t v)
  unfolding bitcast_of value
  back = record {
    type = is_type_lem v p.value.formed;
    target = p.value.alone;
    value = record { formed = (bitcast_formed t v p.type p.target).good; alone = p.target };
    size = sym p.size;
  }

pub cast_back : ThereAndBack
unfolding answered
cast_back R t v l r =
    let p = passed R t v r in
    ap (λ (a : Answer). casting R v.kind a.first) (casts R t v p)
    ∙ casts R v.kind (bitcast_of t v) (back R t v p)
    ∙ ap answered (there_and_back t v l p)
