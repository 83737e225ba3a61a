-- The word that the program makes of the first four lanes, cut to 32 bits, is the word of the lanes in use. The cut does not change the lane of a word. Assumes nothing.
use Prim.Native.Nat.{ℕ, ◌≤◌}
use mathlib.Core.Bool.{true}
use mathlib.Core.List.{List, map}
use mathlib.Core.Path.{◌≡◌, ap, sym, ◌∙◌}
use native.Mathlib.Nat.{mod-eq_of_lt}
use native.Mathlib.Omega.{arith}
use lib.ListN.{length, length-map, take}
use lib.Seq.{take_at, length-take-le}
use Rattle.values.specs.declared.Scalar.{Scalar}
use Rattle.values.specs.declared.Size.{Size}
use Rattle.values.specs.declared.Size.TheVariants.{Two, Three, Four}
use Rattle.values.specs.declared.Kind.{Kind}
use Rattle.values.specs.declared.Kind.TheVariants.{Vec}
use Rattle.values.specs.declared.Value.{Value}
use Rattle.values.specs.Value.{size_of, lane_count, lanes_of, lane, value, well_formed}
use Rattle.values.specs.Program.{low, four, is_lanes}
use Rattle.values.proofs.Formed.{lane_narrow}
use Rattle.values.proofs.Lanes.{lanes1_as}
use Rattle.values.proofs.Places.{same}
use Rattle.numeric.specs.Parts.{joined}
use Rattle.calls.specs.Table.{Only}
use Rattle.calls.specs.Program.{Passed}
use Rattle.builtins.specs.Pack.{word, packed}
use Rattle.arms.specs.Program.{cut_of}

pub value_lanes : (k : Kind) (xs : List ℕ) → length xs ≡ lane_count k → lanes_of (value k xs) ≡ xs
unfolding value
value_lanes k xs e = take_at xs _ (lane_count k) e

few : (n : Size) → size_of n ≤ 4
few Two = omega arith
few Three = omega arith
few Four = omega arith

module _ (n : Size) (s : Scalar) (w : ℕ) (f : ℕ → ℕ) (v : Value) (l : length v.lanes ≡ 16) (p : Passed (Only (Vec n s)) v) where
  kind_is : v.kind ≡ Vec n s
  kind_is = same p.alone

  pub codes : take (size_of n) (four f (cut_of v)) ≡ map f (lanes_of v)
  codes =
      let count = ap lane_count kind_is in
      let used : length (lanes_of v) ≡ lane_count v.kind = length-take-le (lane_count v.kind) v.lanes (omega (arith, few n)) in
      sym (value_lanes (Vec n s) _ (length-take-le (size_of n) (four f (cut_of v)) (few n)))
      ∙ ap lanes_of (lanes1_as (Vec n s) f v l p.formed (ap is_lanes kind_is) (sym count))
      ∙ value_lanes (Vec n s) (map f (lanes_of v)) (length-map (lanes_of v) f ∙ used ∙ count)

  pub packs : word (joined w (take (size_of n) (four f (cut_of v)))) ≡ packed w f v
  unfolding packed
  packs = ap (λ (xs : List ℕ). word (joined w xs)) codes

pub uncut : (v : Value) → well_formed v ≡ true → low (lane v 0) ≡ lane v 0
uncut v w = mod-eq_of_lt (lane_narrow v w 0)
