-- No value's text has a byte below the comma, as a tab or a newline is, so that it is one field of a line: a type's spelling, a digit and what stands between them are higher. Assumes nothing.
use Prim.Native.Nat.{ℕ, zero, suc, ◌+◌, ◌-◌, ◌/◌, ◌%◌, ◌<◌, ◌≤◌}
use mathlib.Core.Bool.{Bool, true, false, cond}
use mathlib.Core.List.{List, [], ◌∷◌}
use mathlib.Core.Path.{◌≡◌, refl}
use native.Mathlib.Omega.{arith}
use borrow.Author.Tests.{ne_eqb, leb-true}
use lib.Dec.{lit<, eqb, leb, ltb}
use Rattle.values.specs.declared.Value.{Value}
use Rattle.values.specs.Value.{scalar_of, every}
use Rattle.values.proofs.Bools.{both, every_both}
use Rattle.values.proofs.Places.{each}
use Rattle.buffers.proofs.FirstPlace.{without}
use Rattle.spelling.specs.Types.{spelled}
use Rattle.spelling.specs.Hex.{digit_count, hex_bytes}
use Rattle.spelling.specs.Write.{lanes_text, text_of}

module _ (b : ℕ) (h : b < 44) where
  high_without : (s : List ℕ) → every (λ x. leb 44 x) s ≡ true → without b s ≡ true
  high_without [] t = refl
  high_without (x ∷ s) t =
      let u = both (leb 44 x) (every (λ y. leb 44 y) s) t in
      let high = leb-true 44 x u.0 in
      rw (ne_eqb x b (λ e. omega arith)) (high_without s u.1)

  digit_other : (d : ℕ) (t : Bool) → eqb (cond t (48 + d) (65 + (d - 10))) b ≡ false
  digit_other d true = ne_eqb (48 + d) b (λ e. omega arith)
  digit_other d false = ne_eqb (65 + (d - 10)) b (λ e. omega arith)

  hex_without : (n v : ℕ) → without b (hex_bytes n v) ≡ true
  unfolding hex_bytes
  hex_without zero v = refl
  hex_without (suc n) v = every_both _ (hex_bytes n (v / 16)) _ (hex_without n (v / 16)) (rw (digit_other (v % 16) (ltb (v % 16) 10)))

  lanes_without : (c w : ℕ) (l : List ℕ) → 44 ≤ c → without b (lanes_text c w l) ≡ true
  unfolding lanes_text
  lanes_without c w [] k = refl
  lanes_without c w (v ∷ l) k = rw (ne_eqb c b (λ e. omega arith)) (every_both _ (hex_bytes w v) _ (hex_without w v) (lanes_without 44 w l (omega arith)))

  pub text_without : (v : Value) → without b (text_of v) ≡ true
  unfolding text_of
  text_without v =
      let k = v.kind in
      every_both _ (spelled k) _ (high_without (spelled k) (each (λ l. every (λ x. leb 44 x) (spelled l)) refl k)) (lanes_without 58 (digit_count (scalar_of k)) _ (omega arith))

pub text_tabless : (v : Value) → without 9 (text_of v) ≡ true
text_tabless = text_without 9 (lit< tt)
