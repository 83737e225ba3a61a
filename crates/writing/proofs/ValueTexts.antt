-- The text of a value that stands among words, by its parts as the code has them. Assumes nothing.
use Prim.Native.Nat.{ℕ, ◌+◌, ◌-◌, ◌≤◌, ◌<◌}
use mathlib.Core.Bool.{Bool, true, false}
use mathlib.Core.List.{List, [], ◌++◌}
use mathlib.Core.Path.{◌≡◌, refl, ap, sym, ◌∙◌}
use native.Mathlib.Omega.{arith}
use borrow.Author.Tests.{leb-true, leb-false}
use lib.Dec.{leb}
use lib.ListN.{length, take, drop, length-drop}
use lib.Seq.{length-take-le}
use Rattle.values.specs.declared.Scalar.{Scalar}
use Rattle.values.specs.declared.Value.{Value}
use Rattle.values.specs.Value.{scalar_of, lane_count, place, kind_at, empty_value}
use Rattle.values.proofs.Places.{placed}
use Rattle.words.specs.Words.{value_at}
use Rattle.words.proofs.There as There
use Rattle.spelling.specs.Types.{spelled}
use Rattle.spelling.specs.Hex.{digit_count}
use Rattle.spelling.specs.Write.{lanes_text, text_of, text_length}
use Rattle.spelling.proofs.Texts.{text_parts, text_16}

-- the empty value has no text
pub no_text : (v : Value) → place v.kind ≡ 0 → text_of v ≡ []
unfolding text_of lanes_text kind_at
no_text v e = rw (placed {k = v.kind} e)

module _ (w : List ℕ) (from : ℕ) where
  abbrev value : Value
  value = value_at w from

  pub length_by_place : {p : ℕ} → p ≡ place value.kind → length (text_of value) ≡ text_length (kind_at p)
  length_by_place e = text_16 value (There.lanes_16 w from) ∙ ap text_length (placed (sym e))

  -- a type's words are all there
  pub words_there : 0 < place value.kind → from + 17 ≤ length w
  unfolding empty_value
  words_there h = by (leb (from + 17) (length w)) refl
    where
      by : (on : Bool) → leb (from + 17) (length w) ≡ on → from + 17 ≤ length w
      by true e = leb-true (from + 17) (length w) e
      by false e = absurd (omega (arith, ap (λ (v : Value). place v.kind) (There.not_there w from (leb-false (from + 17) (length w) e))))

  pub part_length : from + 17 ≤ length w → length (take (from + 17 - (from + 1)) (drop (from + 1) w)) ≡ 16
  part_length h =
      let m : from + 17 - (from + 1) ≡ 16 = omega arith in
      rw m (length-take-le 16 (drop (from + 1) w) (omega (arith, length-drop (from + 1) w)))

  module _ {p n d : ℕ} {s : Scalar} (ep : p ≡ place value.kind) (some : 0 < p) (en : n ≡ lane_count (kind_at p)) (es : s ≡ scalar_of (kind_at p)) (ed : d ≡ digit_count s) where
    -- the words after the type's are the lanes
    lanes_are : take (from + 17 - (from + 1)) (drop (from + 1) w) ≡ value.lanes
    lanes_are =
        let m : from + 17 - (from + 1) ≡ 16 = omega arith in
        rw (m, There.there w from (words_there (rw ep at some)))

    pub text_words : text_of value ≡ spelled (kind_at p) ++ lanes_text 58 d (take n (take (from + 17 - (from + 1)) (drop (from + 1) w)))
    text_words =
        let k : value.kind ≡ kind_at p = placed (sym ep) in
        rw (lanes_are, ← k) (text_parts value (en ∙ ap lane_count (sym k)) (es ∙ ap scalar_of (sym k)) ed)
