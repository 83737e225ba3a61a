-- Values where they stand: what is missing is the empty value, the check goes part by part, and a value is read again out of its own words. Assumes nothing.
use Prim.Native.Nat.{ℕ, suc, ◌+◌, ◌^◌, ◌≤◌, ◌<◌}
use mathlib.Core.Bool.{Bool, true, false, not, ◌&&◌, and-true, and-false, false≢true}
use mathlib.Core.Logic.{inl, inr}
use mathlib.Core.List.{List, ◌++◌, append_assoc}
use mathlib.Core.Path.{◌≡◌, refl, ap, sym, ◌∙◌}
use native.Mathlib.Numerals.{add-one}
use native.Mathlib.Omega.{arith}
use borrow.Author.Tests.{lt-leb, le-leb, ltb-true, ltb-false, eqb-true, eqb-false, eq-eqb, ne_eqb}
use lib.Dec.{eqb, ltb}
use lib.ListN.{length, take, drop, get_or, length-append, length-take, length-drop}
use lib.Seq.{take_at, drop-append-add, get_or-append_seam, length-take-le, drop-cons, get_or-take, get_or-drop}
use Rattle.values.specs.declared.Value.{Value}
use Rattle.values.specs.declared.Kind.{Kind}
use Rattle.values.specs.Value.{lane_bits, scalar_of, lane_count, is_type, place, kind_at, empty_value, lane, every, well_formed}
use Rattle.values.specs.Program.{low, four}
use Rattle.values.proofs.Bools.{either}
use Rattle.values.proofs.Few.{entries, entries_are}
use Rattle.values.proofs.Formed.{judged, is_type_lem, empty_not_formed}
use Rattle.values.proofs.Places as Places
use Rattle.buffers.specs.Memory.{put}
use Rattle.words.specs.Words.{value_at, words_of}
use Rattle.places.proofs.Tables.{typed, own_place}

abbrev pub lanes_at : List ℕ → ℕ → List ℕ
lanes_at w at = take 16 (drop (at + 1) w)

abbrev pub standing : List ℕ → ℕ → Value
standing w at = record { kind = kind_at (get_or w at 0); lanes = lanes_at w at }

module _ (w : List ℕ) (at : ℕ) where
  pub not_there : length w < at + 17 → value_at w at ≡ empty_value
  unfolding value_at
  not_there h = rw (lt-leb _ _ h)

  pub there : at + 17 ≤ length w → value_at w at ≡ standing w at
  unfolding value_at
  there h = rw (le-leb _ _ h)

  pub cut_there : at + 17 ≤ length w → four low (entries w at 1 16) ≡ four low (value_at w at).lanes
  cut_there h = rw (there h) (ap (four low) (entries_are w at 1 16 (omega arith)))

  -- the parts of the check as the code has them
  pub formed_there : at + 17 ≤ length w → {p n b : ℕ} {ok : Bool} → p ≡ place (kind_at (get_or w at 0)) → n ≡ lane_count (kind_at p) → b ≡ 2 ^ lane_bits (scalar_of (kind_at p))
      → ok ≡ every (λ x. ltb x b) (take n (lanes_at w at)) && every (λ x. eqb x 0) (drop n (lanes_at w at)) → not (eqb p 0) && ok ≡ well_formed (value_at w at)
  formed_there h ep en eb eo =
      let k = kind_at (get_or w at 0) in
      let e = ap kind_at ep ∙ Places.there k in
      rw (there h)
      (judged (standing w at) (ap (λ (q : ℕ). not (eqb q 0)) ep ∙ typed k) (en ∙ ap lane_count e) refl (eb ∙ ap (λ (l : Kind). 2 ^ lane_bits (scalar_of l)) e) eo)

  -- no other number's type has the place of a type
  other_place : {p : ℕ} → 0 < p → p ≤ 20 → (get_or w at 0 ≡ p → ⊥) → place (kind_at (get_or w at 0)) ≡ p → ⊥
  other_place z l d e =
      elim (either (ltb (get_or w at 0) 39)) [
        | inl b ↦ d (sym (own_place (get_or w at 0) (ltb-true _ _ b)) ∙ e)
        | inr b ↦ let k : 0 ≡ place (kind_at (get_or w at 0)) = sym (ap place (Places.none_past (get_or w at 0) (ltb-false _ _ b))) in omega arith
      ]

  -- the same where a type is asked for, that at p
  pub formed_as_there : at + 17 ≤ length w → {p n b : ℕ} {ok : Bool} → 0 < p → p ≤ 20 → n ≡ lane_count (kind_at p) → b ≡ 2 ^ lane_bits (scalar_of (kind_at p))
      → ok ≡ every (λ x. ltb x b) (take n (lanes_at w at)) && every (λ x. eqb x 0) (drop n (lanes_at w at))
      → eqb (get_or w at 0) p && ok ≡ well_formed (value_at w at) && eqb (place (value_at w at).kind) p
  formed_as_there h {p} {n} {b} {ok} z l en eb eo =
      let kind : place (value_at w at).kind ≡ place (kind_at (get_or w at 0)) = rw (there h) in
      elim (either (eqb (get_or w at 0) p)) [
        | inl t ↦
            let k : place (kind_at (get_or w at 0)) ≡ p = rw (eqb-true (get_or w at 0) p t) (own_place p (omega arith)) in
            let some : (p ≡ 0 → ⊥) = λ e. omega arith in
            let f : ok ≡ well_formed (value_at w at) = rw (ne_eqb p 0 some) at (formed_there h {p = p} (sym k) en eb eo) in
            rw (t, kind ∙ k, eq-eqb p p refl) (f ∙ sym (and-true (well_formed (value_at w at))))
        | inr t ↦ rw (t, kind, ne_eqb _ p (other_place z l (eqb-false _ p t))) (sym (and-false (well_formed (value_at w at))))
      ]

  -- ---- a value that stands there

  pub lanes_16 : length (value_at w at).lanes ≡ 16
  unfolding empty_value
  lanes_16 =
      elim (either (ltb (length w) (at + 17))) [
        | inl l ↦ rw (not_there (ltb-true (length w) (at + 17) l))
        | inr g ↦ let h = ltb-false (length w) (at + 17) g in rw (there h) (simp (length-take, length-drop) (omega arith))
      ]

  pub lane_there : at + 17 ≤ length w → (i : ℕ) → i < 16 → lane (value_at w at) i ≡ get_or w (at + 1 + i) 0
  lane_there h i l = rw (there h) (get_or-take 16 (drop (at + 1) w) i 0 l ∙ get_or-drop (at + 1) w i 0)

  module _ (f : well_formed (value_at w at) ≡ true) where
    pub all_there : at + 17 ≤ length w
    all_there =
        elim (either (ltb (length w) (at + 17))) [
          | inl l ↦
              let e : well_formed (value_at w at) ≡ false = rw (not_there (ltb-true (length w) (at + 17) l), empty_not_formed) in
              absurd (false≢true (sym e ∙ f))
          | inr g ↦ ltb-false (length w) (at + 17) g
        ]

    kind_there : (value_at w at).kind ≡ kind_at (get_or w at 0)
    kind_there = rw (there all_there)

    pub known_there : get_or w at 0 < 39
    known_there =
        elim (either (ltb (get_or w at 0) 39)) [
          | inl l ↦ ltb-true _ _ l
          | inr g ↦ absurd (false≢true (sym (ap is_type (kind_there ∙ Places.none_past (get_or w at 0) (ltb-false _ _ g))) ∙ is_type_lem (value_at w at) f))
        ]

    pub place_there : get_or w at 0 ≡ place (value_at w at).kind
    place_there = sym (ap place kind_there ∙ own_place (get_or w at 0) known_there)

    -- its words
    pub words_there : take 17 (drop at w) ≡ words_of (value_at w at)
    words_there =
        let h = all_there in
        let e : (value_at w at).lanes ≡ take 16 (drop (suc at) w) = rw (there h, add-one at) in
        rw (drop-cons w at 0 (omega arith)) (cc (place_there, e))

-- a value's words, with others around them, say that value
pub said : {w : List ℕ} {at : ℕ} (before after : List ℕ) (v : Value) → length v.lanes ≡ 16 → w ≡ before ++ (words_of v ++ after) → at ≡ length before → value_at w at ≡ v
unfolding value_at
said before after v h e ea =
    let whole = before ++ (words_of v ++ after) in
    let l : length before + 17 ≤ length whole = omega (arith, length-append before (words_of v ++ after), length-append v.lanes after) in
    rw (e, ea, le-leb (length before + 17) (length whole) l, get_or-append_seam before _ _ 0, Places.there v.kind, drop-append-add before _ 1, take_at v.lanes after 16 h)

-- a value is what its words say
pub put_there : (o : List ℕ) (at : ℕ) (v : Value) → length v.lanes ≡ 16 → at + 17 ≤ length o → value_at (put o at (words_of v)) at ≡ v
unfolding put
put_there o at v h room =
    said (take at o) (drop (at + length (words_of v)) o) v h (append_assoc (take at o) (words_of v) _) (sym (length-take-le at o (omega arith)))
