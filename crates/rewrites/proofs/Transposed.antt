-- Q-4 of transpose as a call: for each of the nine shapes the lanes of a matrix transposed twice are its own, by computation. Assumes nothing.
use mathlib.Core.Path.{◌≡◌, refl, ap, ◌∙◌, subst}
use Prim.Native.Nat.{ℕ, zero, suc, ◌*◌, ◌≤◌}
use native.Mathlib.Omega.{arith}
use mathlib.Core.Bool.{true, false≢true}
use mathlib.Core.List.{List, [], ◌∷◌, map}
use lib.ListN.{length, take, get_or}
use Rattle.readings.specs.declared.Reading.{Reading}
use Rattle.values.specs.declared.Size.{Size}
use Rattle.values.specs.declared.Size.TheVariants.{Two, Three, Four}
use Rattle.values.specs.declared.Width.{Width}
use Rattle.values.specs.declared.Kind.{Kind}
use Rattle.values.specs.declared.Kind.TheVariants.{Empty, One, Vec, Mat}
use Rattle.values.specs.declared.Value.{Value}
use Rattle.values.specs.Value.{size_of, lane_count, lane, value}
use Rattle.values.proofs.Formed.{whole}
use Rattle.moves.specs.Moves.{up_to, transposed_lanes, transposed, transpose_of}
use Rattle.calls.specs.declared.Builtin.TheVariants.{Transpose}
use Rattle.calls.specs.Table.{Matrices, taken}
use Rattle.builtins.specs.declared.Answer.{Answer}
use Rattle.builtins.specs.Fold.{answered}
use Rattle.builtins.proofs.Answers.{answers}
use Rattle.formed.proofs.Values.{transposed_formed}
use Rattle.rewrites.specs.Rewrites.{Of, one, TransposesBack}
use Rattle.rewrites.proofs.Lanes.{few}

-- the first n lanes, one after the other
shifted : (g : ℕ → ℕ) (s n : ℕ) → map g (up_to (suc s) n) ≡ map (λ j. g (suc j)) (up_to s n)
shifted g s zero = refl
shifted g s (suc n) = ap (◌∷◌ (g (suc s))) (shifted g (suc s) n)

listed : (l : List ℕ) (n : ℕ) → n ≤ length l → map (λ i. get_or l i 0) (up_to 0 n) ≡ take n l
listed l zero h = refl
listed [] (suc n) h = absurd (omega arith)
listed (x ∷ l) (suc n) h = ap (◌∷◌ x) (shifted (λ i. get_or (x ∷ l) i 0) 0 n ∙ listed l n (omega arith))

twice : (c r : Size) (w : Width) (v : Value) → transposed_lanes (size_of r) (size_of c) (value (Mat r c w) (transposed_lanes (size_of c) (size_of r) v)) ≡ map (lane v) (up_to 0 (size_of c * size_of r))
unfolding value
twice Two Two w v = refl
twice Two Three w v = refl
twice Two Four w v = refl
twice Three Two w v = refl
twice Three Three w v = refl
twice Three Four w v = refl
twice Four Two w v = refl
twice Four Three w v = refl
twice Four Four w v = refl

module _ (R : Reading) where
  folds : (k : Kind) → taken Matrices k ≡ true → (v : Value) → Of k v → one R Transpose v ≡ answered (transposed k v)
  unfolding transpose_of
  folds k t v i = answers R Transpose Matrices v refl i.formed.good (rw i.type t) ∙ ap (λ (l : Kind). answered (transposed l v)) i.type

  pub transposes_back : TransposesBack R
  unfolding answered value
  transposes_back Empty t m i = absurd (false≢true t)
  transposes_back (One s) t m i = absurd (false≢true t)
  transposes_back (Vec n s) t m i = absurd (false≢true t)
  transposes_back (Mat c r w) t m i =
      let k = Mat c r w in
      let own : value k (take (lane_count k) m.lanes) ≡ m = subst (λ (k : Kind). value k (take (lane_count k) m.lanes) ≡ m) i.type (whole m i.formed.good i.formed.lanes) in
      ap (λ (x : Answer). one R Transpose x.first) (folds k t m i)
      ∙ folds (Mat r c w) refl (transposed k m) (record { type = refl; formed = transposed_formed k m i.type i.formed })
      ∙ ap answered (ap (value k) (twice c r w m ∙ listed m.lanes (lane_count k) (few k m i.formed)) ∙ own)
