-- What writing a value into lent memory gives, by its three cases. Assumes nothing.
use Prim.Native.Nat.{ℕ, ◌≤◌, ◌<◌}
use mathlib.Core.Bool.{Bool, true, false, cond}
use mathlib.Core.List.{List, []}
use mathlib.Core.Path.{◌≡◌, refl, sym, ap, ◌∙◌}
use native.Mathlib.Nat.{zero-add}
use native.Mathlib.Omega.{arith}
use borrow.Author.Tests.{lt-ltb, le-ltb}
use lib.Dec.{eqb}
use lib.ListN.{length}
use Rattle.values.specs.declared.Value.{Value}
use Rattle.values.specs.Value.{well_formed}
use Rattle.buffers.specs.Memory.{put}
use Rattle.buffers.proofs.Puts.{put_nil, Tried, made}
use Rattle.spelling.specs.Write.{text_of}
use Rattle.spelling.proofs.Texts.{at_most_155}
use Rattle.writing.specs.declared.Written.{Written}
use Rattle.writing.specs.Into.{refusal_in, text_in, written_as}

abbrev Gives : List ℕ → Value → Written → List ℕ → Type 0
Gives o v r o' = (r ≡ written_as (length o) v) × (o' ≡ put o 0 (text_in (length o) v))

module _ (o : List ℕ) (v : Value) where
  pub ill_formed : well_formed v ≡ false → Gives o v (record { refusal = 3; len = 0 }) o
  unfolding written_as text_in refusal_in
  ill_formed w = rw w (refl, sym (put_nil o 0))

  pub too_short : well_formed v ≡ true → length o < length (text_of v) → Gives o v (record { refusal = 8; len = 0 }) o
  unfolding written_as text_in refusal_in
  too_short w h = rw (w, lt-ltb _ _ h) (refl, sym (put_nil o 0))

  pub written : well_formed v ≡ true → length (text_of v) ≤ length o → {r : ℕ} {o' : List ℕ} → Tried o 0 (text_of v) r o' → Gives o v (record { refusal = 0; len = r }) o'
  unfolding written_as text_in refusal_in
  written w h {r} {o'} t =
      let m = made o 0 (text_of v) (rw (zero-add (length (text_of v))) h) t in
      let e : r ≡ length (text_of v) = m.0 ∙ zero-add (length (text_of v)) in
      rw (w, le-ltb _ _ h) (ap (λ (n : ℕ). record { refusal = 0; len = n }) e, m.1)

pub length_few : (room : ℕ) (v : Value) → (written_as room v).len ≤ 155
unfolding written_as text_in
length_few room v = by (eqb (refusal_in room v) 0)
  where
    by : (t : Bool) → length (cond t (text_of v) []) ≤ 155
    by true = at_most_155 v
    by false = omega arith
