-- An arm's test passes a call just where nothing refuses it: shape by shape, each of the two sides says the other. What a set has to be for it is one computed
-- test over the types, and that the table's are so is one over its rows. Assumes nothing.
use Prim.Native.Nat.{ℕ}
use mathlib.Core.Bool.{Bool, true, false, not, cond, ◌&&◌, ◌||◌, and-false}
use mathlib.Core.List.{List, ◌∷◌}
use mathlib.Core.Logic.{⊎_elim}
use mathlib.Core.Path.{◌≡◌, refl, ap, sym, ◌∙◌}
use lib.Dec.{eqb}
use lib.ListN.{get_or}
use Rattle.values.specs.declared.Scalar.TheVariants.{Boolean, I32}
use Rattle.values.specs.declared.Kind.{Kind}
use Rattle.values.specs.declared.Kind.TheVariants.{Empty, One}
use Rattle.values.specs.declared.Value.{Value}
use Rattle.values.specs.Value.{is_type, shaped, kinds, kind_at, same_kind, well_formed}
use Rattle.values.proofs.Bools.{both, and, either}
use Rattle.values.proofs.Places.{all, each, same, itself}
use Rattle.places.specs.Program.{set_of}
use Rattle.words.specs.Words.{value_at}
use Rattle.calls.specs.declared.Builtin.{Builtin}
use Rattle.calls.specs.Table.{I32s, taken, takes, builtin_at}
use Rattle.calls.specs.Refuse.{byte_size, first_of, refusal_of}
use Rattle.calls.specs.declared.table.Shape.{Shape}
use Rattle.calls.specs.declared.table.Shape.TheVariants.{Unlisted, OneValue, TwoAlike, ThreeAlike, Selecting, Scaling, Casting}
use Rattle.calls.specs.Words.{call_of}
use Rattle.calls.specs.Program.{shape_of, types_of, has, judged_as, judged_in, is_of, chooses, passes_as, passes_in, First}
use Rattle.calls.proofs.Shaped.{by_shape, each_row, regular_at}

-- ---- tests

record Clear (n f a t s : Bool) : Type 0 where
  counted : n ≡ true
  formed : f ≡ true
  alone : a ≡ true
  together : t ≡ true
  sized : s ≡ true

-- a test that says of each of the five that it holds, and is said by them, is the test that nothing refuses
exactly : (x n f a t s : Bool) → (x ≡ true → Clear n f a t s) → (Clear n f a t s → x ≡ true) → x ≡ eqb (first_of true n f a t s) 0
exactly true n f a t s g h = let c = g refl in sym (rw (c.counted, c.formed, c.alone, c.together, c.sized))
exactly false true true true true true g h = h (record { counted = refl; formed = refl; alone = refl; together = refl; sized = refl })
exactly false false f a t s g h = refl
exactly false true false a t s g h = refl
exactly false true true false t s g h = refl
exactly false true true true false s g h = refl
exactly false true true true true false g h = refl

-- ---- values

of_type : (v : Value) (k : Kind) → is_of v k ≡ true → (well_formed v ≡ true) × (v.kind ≡ k)
of_type v k h = let t = both (well_formed v) (same_kind v.kind k) h in (t.0, same {k = v.kind} {l = k} t.1)

-- as the judgement has it, the other way round
of_same : (v : Value) (k : Kind) → well_formed v ≡ true → same_kind k v.kind ≡ true → is_of v k ≡ true
of_same v k w e = and w (rw (same {k = k} {l = v.kind} e, itself v.kind))

-- ---- what the set of a shape has to be

abbrev pub implied : (Kind → Bool) → (Kind → Bool) → Bool
implied f g = all (λ k. cond (f k) (g k) true) (Empty ∷ kinds)

pub from_implied : (f g : Kind → Bool) → implied f g ≡ true → (k : Kind) → f k ≡ true → g k ≡ true
from_implied f g i k h = rw h at (each (λ l. cond (f l) (g l) true) i k)

abbrev pub sound : Shape → ℕ → Bool
sound Unlisted set = true
sound OneValue set = true
sound TwoAlike set = true
sound ThreeAlike set = true
sound Selecting set = true
sound Scaling set = implied (has set) (λ k. taken I32s (shaped I32 k))
sound Casting set = implied (has set) is_type

module _ (set n : ℕ) (t : Kind) (a b c : Value) (w : well_formed a ≡ true) where
  one_value : passes_as OneValue set n t a b c ≡ eqb (judged_as OneValue set n t a b c) 0
  one_value =
      exactly (passes_as OneValue set n t a b c) (eqb n 1) (well_formed a) (has set a.kind) true true
      (λ h.
      let x = both (eqb n 1) (has set a.kind) h in
      record { counted = x.0; formed = w; alone = x.1; together = refl; sized = refl })
      (λ x. and x.counted x.alone)

  two_alike : passes_as TwoAlike set n t a b c ≡ eqb (judged_as TwoAlike set n t a b c) 0
  two_alike =
      exactly (passes_as TwoAlike set n t a b c) (eqb n 2) (well_formed a && well_formed b) (has set a.kind && has set b.kind) (same_kind a.kind b.kind) true
      (λ h.
      let x = both (eqb n 2) (has set a.kind && is_of b a.kind) h in
      let y = both (has set a.kind) (is_of b a.kind) x.1 in
      let z = of_type b a.kind y.1 in
      record { counted = x.0; formed = and w z.0; alone = rw z.1 (and y.0 y.0); together = rw z.1 (itself a.kind); sized = refl })
      (λ x.
      and x.counted
      (and (both (has set a.kind) (has set b.kind) x.alone).0
      (of_same b a.kind (both (well_formed a) (well_formed b) x.formed).1 x.together)))

  three_alike : passes_as ThreeAlike set n t a b c ≡ eqb (judged_as ThreeAlike set n t a b c) 0
  three_alike =
      exactly (passes_as ThreeAlike set n t a b c) (eqb n 3) (well_formed a && well_formed b && well_formed c) (has set a.kind && has set b.kind && has set c.kind)
      (same_kind a.kind b.kind && same_kind a.kind c.kind) true
      (λ h.
      let x = both (eqb n 3) (has set a.kind && (is_of b a.kind && is_of c a.kind)) h in
      let y = both (has set a.kind) (is_of b a.kind && is_of c a.kind) x.1 in
      let z = both (is_of b a.kind) (is_of c a.kind) y.1 in
      let eb = of_type b a.kind z.0 in
      let ec = of_type c a.kind z.1 in
      record { counted = x.0; formed = and (and w eb.0) ec.0; alone = rw (eb.1, ec.1) (and (and y.0 y.0) y.0); together = rw (eb.1, ec.1) (and (itself a.kind) (itself a.kind)); sized = refl })
      (λ x.
      let f = both (well_formed a && well_formed b) (well_formed c) x.formed in
      let l = both (has set a.kind && has set b.kind) (has set c.kind) x.alone in
      let g = both (same_kind a.kind b.kind) (same_kind a.kind c.kind) x.together in
      and x.counted
      (and (both (has set a.kind) (has set b.kind) l.0).0
      (and (of_same b a.kind (both (well_formed a) (well_formed b) f.0).1 g.0) (of_same c a.kind f.1 g.1))))

  selecting : passes_as Selecting set n t a b c ≡ eqb (judged_as Selecting set n t a b c) 0
  selecting =
      let chosen = same_kind c.kind (One Boolean) || same_kind c.kind (shaped Boolean a.kind) in
      exactly (passes_as Selecting set n t a b c) (eqb n 3) (well_formed a && well_formed b && well_formed c) (has set c.kind) (same_kind a.kind b.kind && chosen) true
      (λ h.
      let x = both (eqb n 3) (is_of b a.kind && chooses set c a.kind) h in
      let y = both (is_of b a.kind) (chooses set c a.kind) x.1 in
      let z = both (well_formed c) (has set c.kind && chosen) y.1 in
      let u = both (has set c.kind) chosen z.1 in
      let e = of_type b a.kind y.0 in
      record { counted = x.0; formed = and (and w e.0) z.0; alone = u.0; together = rw e.1 (and (itself a.kind) u.1); sized = refl })
      (λ x.
      let f = both (well_formed a && well_formed b) (well_formed c) x.formed in
      let g = both (same_kind a.kind b.kind) chosen x.together in
      and x.counted (and (of_same b a.kind (both (well_formed a) (well_formed b) f.0).1 g.0) (and f.1 (and x.alone g.1))))

  scaling : implied (has set) (λ k. taken I32s (shaped I32 k)) ≡ true → passes_as Scaling set n t a b c ≡ eqb (judged_as Scaling set n t a b c) 0
  scaling i =
      exactly (passes_as Scaling set n t a b c) (eqb n 2) (well_formed a && well_formed b) (has set a.kind && taken I32s b.kind) (same_kind b.kind (shaped I32 a.kind)) true
      (λ h.
      let x = both (eqb n 2) (has set a.kind && is_of b (shaped I32 a.kind)) h in
      let y = both (has set a.kind) (is_of b (shaped I32 a.kind)) x.1 in
      let z = both (well_formed b) (same_kind b.kind (shaped I32 a.kind)) y.1 in
      let e = of_type b (shaped I32 a.kind) y.1 in
      record { counted = x.0; formed = and w z.0; alone = rw e.1 (and y.0 (from_implied (has set) (λ k. taken I32s (shaped I32 k)) i a.kind y.0)); together = z.1; sized = refl })
      (λ x.
      and x.counted
      (and (both (has set a.kind) (taken I32s b.kind) x.alone).0 (and (both (well_formed a) (well_formed b) x.formed).1 x.together)))

  casting : implied (has set) is_type ≡ true → passes_as Casting set n t a b c ≡ eqb (judged_as Casting set n t a b c) 0
  casting i =
      let size = eqb (byte_size t) (byte_size a.kind) in
      exactly (passes_as Casting set n t a b c) (eqb n 2) (is_type t && well_formed a) (has set t && has set a.kind) true size
      (λ h.
      let x = both (eqb n 2) (has set a.kind && (has set t && size)) h in
      let y = both (has set a.kind) (has set t && size) x.1 in
      let z = both (has set t) size y.1 in
      record { counted = x.0; formed = and (from_implied (has set) is_type i t z.0) w; alone = and z.0 y.0; together = refl; sized = z.1 })
      (λ x.
      let l = both (has set t) (has set a.kind) x.alone in
      and x.counted (and l.1 (and l.0 x.sized)))

  pub converse : (s : Shape) → sound s set ≡ true → passes_as s set n t a b c ≡ eqb (judged_as s set n t a b c) 0
  converse Unlisted i = refl
  converse OneValue i = one_value
  converse TwoAlike i = two_alike
  converse ThreeAlike i = three_alike
  converse Selecting i = selecting
  converse Scaling i = scaling i
  converse Casting i = casting i

-- ---- where the first value is not well formed, every shape refuses

refused : (n : Bool) → false ≡ eqb (cond (not n) 2 3) 0
refused true = refl
refused false = refl

module _ (set n : ℕ) (t : Kind) (a b c : Value) where
  unformed_as : (s : Shape) → well_formed a ≡ false → false ≡ eqb (judged_as s set n t a b c) 0
  unformed_as Unlisted w = refl
  unformed_as OneValue w = rw w (refused (eqb n 1))
  unformed_as TwoAlike w = rw w (refused (eqb n 2))
  unformed_as ThreeAlike w = rw w (refused (eqb n 3))
  unformed_as Selecting w = rw w (refused (eqb n 3))
  unformed_as Scaling w = rw w (refused (eqb n 2))
  unformed_as Casting w = rw (w, and-false (is_type t)) (refused (eqb n 2))

  pub exact : (s : Shape) → sound s set ≡ true → well_formed a && passes_as s set n t a b c ≡ eqb (judged_as s set n t a b c) 0
  exact s i =
      ⊎_elim (λ w. rw w (converse set n t a b c w s i)) (λ w. rw w (unformed_as s w))
      (either (well_formed a))

-- ---- calls of words

sound_at : (i : ℕ) → sound (shape_of (takes (builtin_at i))) (types_of (takes (builtin_at i))) ≡ true
unfolding set_of
sound_at = each_row (λ r. sound (shape_of r) (types_of r)) refl

pub passes_unrefused : (w : List ℕ) → passes_in w ≡ eqb (refusal_of (call_of w)) 0
unfolding passes_in call_of
passes_unrefused w =
    let i = get_or w 0 0 in
    let n = get_or w 1 0 in
    let t = kind_at (get_or w 2 0) in
    exact (types_of (takes (builtin_at i))) n t (value_at w 3) (value_at w 20) (value_at w 37) (shape_of (takes (builtin_at i))) (sound_at i)
    ∙ ap (λ (x : ℕ). eqb x 0) (by_shape n t (value_at w 3) (value_at w 20) (value_at w 37) (takes (builtin_at i)) (regular_at i))

-- a call whose first value is not well formed is refused
pub unformed : (w : List ℕ) → well_formed (value_at w 3) ≡ false → eqb (refusal_of (call_of w)) 0 ≡ false
unfolding passes_in
unformed w h = sym (passes_unrefused w) ∙ rw h

-- as an arm has it
pub arm : (w : List ℕ) (p n set : ℕ) → First w p → (s : Shape) → sound s set ≡ true
    → passes_as s set n (kind_at (get_or w 2 0)) (value_at w 3) (value_at w 20) (value_at w 37) ≡ eqb (judged_in s set n w) 0
arm w p n set f s i = converse set n (kind_at (get_or w 2 0)) (value_at w 3) (value_at w 20) (value_at w 37) f.formed s i

-- of a builtin's shape and set, which compute, the judgement is the call's refusal
pub told : (w : List ℕ) (which : Builtin) → builtin_at (get_or w 0 0) ≡ which → judged_in (shape_of (takes which)) (types_of (takes which)) (get_or w 1 0) w ≡ refusal_of (call_of w)
unfolding call_of
told w which e =
    rw (← e) (by_shape (get_or w 1 0) (kind_at (get_or w 2 0)) (value_at w 3) (value_at w 20) (value_at w 37) (takes (builtin_at (get_or w 0 0))) (regular_at (get_or w 0 0)))
