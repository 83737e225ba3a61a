-- The type that a text starts with, found by its bytes. Sound: the tests are those of each byte of the spelling, which are none of them 0, so they stand in the text.
-- Complete: one computed test over the types, whatever follows the spelling. Assumes nothing.
use Prim.Native.Nat.{ℕ, zero, suc, ◌+◌, ◌*◌, ◌≤◌, ◌<◌}
use mathlib.Core.Bool.{Bool, true, false, not, cond, ◌&&◌, and-true}
use mathlib.Core.List.{List, [], ◌∷◌, ◌++◌, append-nil}
use mathlib.Core.Logic.{⊎_elim}
use mathlib.Core.Path.{◌≡◌, refl, ap, sym, ◌∙◌}
use native.Mathlib.Omega.{arith}
use native.Mathlib.Nat.{add-zero}
use borrow.Author.Tests.{eqb-true, eqb-false, eq-eqb, ne_eqb, not-true, not-false, ltb-true, ltb-false}
use lib.Dec.{eqb, ltb}
use lib.ListN.{length, take, drop, get_or, get_or-eq_default}
use lib.Seq.{drop-cons, take_all}
use Rattle.values.specs.declared.Kind.{Kind}
use Rattle.values.specs.declared.Kind.TheVariants.{Empty}
use Rattle.values.specs.Value.{is_type, place, kind_at, every}
use Rattle.values.proofs.Bools.{both, and}
use Rattle.values.proofs.Places.{there, each}
use Rattle.buffers.specs.Text.{byte, bytes, same_bytes, first_spelled}
use Rattle.buffers.proofs.Lookup.{same_true}
use Rattle.spelling.specs.Types.{spelled, kind_of}
use Rattle.places.proofs.Tables.{own_place, typed}
use Rattle.spelling.proofs.Spellings.{none_or_spelled, kind_spelled}
use Rattle.values.proofs.Tested.{below, below_at}
use Rattle.typenames.specs.Program.{first_bytes, scalar_by, scalar_width, size_by, vector_tests, vector_by, vector_from, matrix_tests, matrix_by, matrix_from, type_from}

-- ---- complete

pub complete : (k : Kind) (r : List ℕ) → is_type k ≡ true → type_from (spelled k ++ r) ≡ place k
unfolding type_from scalar_by size_by
complete k r t = eqb-true _ _ (rw t at (each (λ l. cond (is_type l) (eqb (type_from (spelled l ++ r)) (place l)) true) refl k))

-- ---- bytes that stand in a text

abbrev stands : List ℕ → List ℕ → ℕ → Bool
stands [] t i = true
stands (c ∷ a) t i = eqb (get_or t i 0) c && stands a t (suc i)

stands_both : (a b t : List ℕ) (i : ℕ) → stands a t i ≡ true → stands b t (i + length a) ≡ true → stands (a ++ b) t i ≡ true
stands_both [] b t i h k = rw add-zero at k
stands_both (c ∷ a) b t i h k =
    let u = both (eqb (get_or t i 0) c) (stands a t (suc i)) h in
    let e : i + suc (length a) ≡ suc i + length a = omega arith in
    and u.0 (stands_both a b t (suc i) u.1 (rw e at k))

pub inside : (t : List ℕ) (i : ℕ) → 0 < get_or t i 0 → i < length t
inside t i h = by (ltb i (length t)) refl
  where
    by : (on : Bool) → ltb i (length t) ≡ on → i < length t
    by true e = ltb-true i (length t) e
    by false e = absurd (omega (arith, get_or-eq_default t 0 (ltb-false i (length t) e)))

-- no byte of which is 0
stands_take : (a t : List ℕ) (i : ℕ) → every (λ x. ltb 0 x) a ≡ true → stands a t i ≡ true → take (length a) (drop i t) ≡ a
stands_take [] t i z h = refl
stands_take (c ∷ a) t i z h =
    let u = both (eqb (get_or t i 0) c) (stands a t (suc i)) h in
    let v = both (ltb 0 c) (every (λ x. ltb 0 x) a) z in
    let e = eqb-true (get_or t i 0) c u.0 in
    let l = inside t i (rw e (ltb-true 0 c v.0)) in
    rw (drop-cons t i 0 l, e) (ap (◌∷◌ c) (stands_take a t (suc i) v.1 u.1))

-- ---- sound

-- what holds of both holds of what is chosen
chosen : (P : ℕ → Type 0) (on : Bool) (x y : ℕ) → (on ≡ true → P x) → P y → P (cond on x y)
chosen P true x y h k = h refl
chosen P false x y h k = k

pub most : (on : Bool) (x : ℕ) → cond on x 0 ≤ x
most on x = chosen (λ y. y ≤ x) on x 0 (λ _. omega arith) (omega arith)

positive : (n : ℕ) → not (eqb n 0) ≡ true → 0 < n
positive n t = omega (arith, eqb-false n 0 (not-true (eqb n 0) t))

module _ (t : List ℕ) (i : ℕ) where
  abbrev Scalars : ℕ → Type 0
  Scalars p = (p ≤ 5) × (0 < p → stands (spelled (kind_at p)) t i ≡ true)

  pub scalar_right : Scalars (scalar_by (get_or t i 0) (get_or t (suc i) 0) (get_or t (suc (suc i)) 0) (get_or t (suc (suc (suc i))) 0))
  unfolding kind_at scalar_by
  scalar_right =
      chosen Scalars _ 1 _ (λ e. (omega arith, λ _. rw and-true e))
      (chosen Scalars _ 2 _ (λ e. (omega arith, λ _. rw and-true e))
      (chosen Scalars _ 3 _ (λ e. (omega arith, λ _. rw and-true e))
      (chosen Scalars _ 4 _ (λ e. (omega arith, λ _. rw and-true e))
      (chosen Scalars _ 5 0 (λ e. (omega arith, λ _. rw and-true e))
      (omega arith, λ h. absurd (omega arith))))))

module _ (x : ℕ) where
  abbrev Sizes : ℕ → Type 0
  Sizes n = (n ≤ 3) × (0 < n → x ≡ byte "1" + n)

  pub size_right : Sizes (size_by x)
  unfolding size_by
  size_right =
      chosen Sizes (eqb x (byte "2")) 1 _ (λ e. (omega arith, λ _. eqb-true _ _ e))
      (chosen Sizes (eqb x (byte "3")) 2 _ (λ e. (omega arith, λ _. eqb-true _ _ e))
      (chosen Sizes (eqb x (byte "4")) 3 0 (λ e. (omega arith, λ _. eqb-true _ _ e))
      (omega arith, λ h. absurd (omega arith))))

-- so what is given is a type's place
pub vector_below : (t : List ℕ) (n p : ℕ) → n ≤ 3 → p ≤ 5 → vector_by t n p < 39
vector_below t n p hn hp = omega (arith, most (vector_tests t n p) (5 * n + p))

pub matrix_below : (t : List ℕ) (c r p : ℕ) → c ≤ 3 → r ≤ 3 → p ≤ 5 → matrix_by t c r p < 39
matrix_below t c r p hc hr hp = omega (arith, most (matrix_tests t c r p) (17 + cond (eqb p 5) 9 0 + 3 * c + r), most (eqb p 5) 9)

-- the eleventh byte is the last that is looked at
behind : (t : List ℕ) (p : ℕ) → get_or (first_bytes t) (scalar_width p + 5) 0 ≡ get_or t (scalar_width p + 5) 0
behind t p = by (eqb p 1)
  where
    by : (four : Bool) → get_or (first_bytes t) (cond four 4 3 + 5) 0 ≡ get_or t (cond four 4 3 + 5) 0
    by true = refl
    by false = refl

pub by_first_bytes : (t : List ℕ) → type_from (first_bytes t) ≡ type_from t
unfolding type_from
by_first_bytes t = rw (behind t (scalar_by (get_or t 5 0) (get_or t 6 0) (get_or t 7 0) (get_or t 8 0)))

scalar_width_lem : (p : ℕ) → 0 < p → p ≤ 5 → length (spelled (kind_at p)) ≡ scalar_width p
unfolding kind_at below
scalar_width_lem (suc q) a b = eqb-true _ _ (below_at (λ m. eqb (length (spelled (kind_at (suc m)))) (scalar_width (suc m))) 5 q refl (omega arith))
scalar_width_lem zero a b = absurd (omega arith)

vector_end : (p : ℕ) → 0 < p → p ≤ 5 → scalar_width p + 5 ≡ 5 + length (spelled (kind_at p))
vector_end p a b = omega (arith, scalar_width_lem p a b)

matrix_end : (p : ℕ) → 3 < p → p ≤ 5 → 10 ≡ 7 + length (spelled (kind_at p))
matrix_end p a b = rw (scalar_width_lem p (omega arith) b, ne_eqb p 1 (λ e. omega arith))

closed : (t : List ℕ) (i p e : ℕ) → e ≡ i + length (spelled (kind_at p)) → eqb (get_or t e 0) (byte ">") ≡ true → stands (bytes ">") t (i + length (spelled (kind_at p))) ≡ true
closed t i p e q h = rw (← q, h)

abbrev vector_text : (n p : ℕ) → List ℕ
vector_text n p = bytes "vec" ++ ((byte "1" + n) ∷ byte "<" ∷ (spelled (kind_at p) ++ bytes ">"))

vector_text_lem : (n p : ℕ) → 0 < n → n ≤ 3 → 0 < p → p ≤ 5 → vector_text n p ≡ spelled (kind_at (5 * n + p))
unfolding kind_at below same_bytes
vector_text_lem zero p a b c d = absurd (omega arith)
vector_text_lem (suc m) zero a b c d = absurd (omega arith)
vector_text_lem (suc m) (suc q) a b c d = same_true _ _ (below_at (right m) 5 q (below_at (λ l. below (right l) 5) 3 m refl (omega arith)) (omega arith))
  where
    right : ℕ → ℕ → Bool
    right l r = same_bytes (vector_text (suc l) (suc r)) (spelled (kind_at (5 * suc l + suc r)))

abbrev matrix_text : (c r p : ℕ) → List ℕ
matrix_text c r p = bytes "mat" ++ ((byte "1" + c) ∷ byte "x" ∷ (byte "1" + r) ∷ byte "<" ∷ (spelled (kind_at p) ++ bytes ">"))

abbrev matrix_place : (c r p : ℕ) → ℕ
matrix_place c r p = 17 + cond (eqb p 5) 9 0 + 3 * c + r

matrix_text_lem : (c r p : ℕ) → 0 < c → c ≤ 3 → 0 < r → r ≤ 3 → 3 < p → p ≤ 5 → matrix_text c r p ≡ spelled (kind_at (matrix_place c r p))
unfolding kind_at below same_bytes
matrix_text_lem (suc c) (suc r) (suc (suc (suc (suc p)))) a b d e f g =
    same_true _ _ (below_at (right c r) 2 p (below_at (λ m. below (right c m) 2) 3 r (below_at (λ l. below (λ m. below (right l m) 2) 3) 3 c refl (omega arith)) (omega arith)) (omega arith))
  where
    right : ℕ → ℕ → ℕ → Bool
    right l m q = same_bytes (matrix_text (suc l) (suc m) (suc (suc (suc (suc q))))) (spelled (kind_at (matrix_place (suc l) (suc m) (suc (suc (suc (suc q)))))))
matrix_text_lem zero r p a b d e f g = absurd (omega arith)
matrix_text_lem (suc c) zero p a b d e f g = absurd (omega arith)
matrix_text_lem (suc c) (suc r) zero a b d e f g = absurd (omega arith)
matrix_text_lem (suc c) (suc r) (suc zero) a b d e f g = absurd (omega arith)
matrix_text_lem (suc c) (suc r) (suc (suc zero)) a b d e f g = absurd (omega arith)
matrix_text_lem (suc c) (suc r) (suc (suc (suc zero))) a b d e f g = absurd (omega arith)

module _ (t : List ℕ) where
  -- a place is given only where its type is spelled at the start
  abbrev Given : ℕ → Type 0
  Given p = 0 < p → (p < 39) × (stands (spelled (kind_at p)) t 0 ≡ true)

  module _ (n p : ℕ) (first : get_or t 0 0 ≡ byte "v") (size : Sizes (get_or t 3 0) n) (scalar : Scalars t 5 p) where
    vector_spelled : vector_tests t n p ≡ true → Given (5 * n + p)
    vector_spelled tests h =
        let close = both _ _ tests in
        let some = both _ _ close.0 in
        let sized = both _ _ some.0 in
        let angle = both _ _ sized.0 in
        let ec = both _ _ angle.0 in
        let hn = positive n sized.1 in
        let hp = positive p some.1 in
        let e : eqb (get_or t 1 0) (byte "e") ≡ true = ec.0 in
        let c : eqb (get_or t 2 0) (byte "c") ≡ true = ec.1 in
        let less : eqb (get_or t 4 0) (byte "<") ≡ true = angle.1 in
        let last = closed t 5 p (scalar_width p + 5) (vector_end p hp scalar.0) close.1 in (
          omega arith,
          rw (← (vector_text_lem n p hn size.0 hp scalar.0))
              (and (eq-eqb _ _ first) (and e (and c (and (eq-eqb _ _ (size.1 hn)) (and less (stands_both (spelled (kind_at p)) (bytes ">") t 5 (scalar.1 hp) last)))))),
        )

    vector_given : Given (vector_by t n p)
    vector_given = chosen Given (vector_tests t n p) (5 * n + p) 0 vector_spelled (λ z. absurd (omega arith))

  module _ (c r p : ℕ) (first : get_or t 0 0 ≡ byte "m") (columns : Sizes (get_or t 3 0) c) (rows : Sizes (get_or t 5 0) r) (scalar : Scalars t 7 p) where
    matrix_spelled : matrix_tests t c r p ≡ true → Given (matrix_place c r p)
    matrix_spelled tests h =
        let close = both _ _ tests in
        let some = both _ _ close.0 in
        let rsized = both _ _ some.0 in
        let csized = both _ _ rsized.0 in
        let angle = both _ _ csized.0 in
        let x = both _ _ angle.0 in
        let at = both _ _ x.0 in
        let hc = positive c csized.1 in
        let hr = positive r rsized.1 in
        let hp = ltb-true 3 p some.1 in
        let a : eqb (get_or t 1 0) (byte "a") ≡ true = at.0 in
        let b : eqb (get_or t 2 0) (byte "t") ≡ true = at.1 in
        let times : eqb (get_or t 4 0) (byte "x") ≡ true = x.1 in
        let less : eqb (get_or t 6 0) (byte "<") ≡ true = angle.1 in
        let one : 0 < p = omega arith in
        let last = closed t 7 p 10 (matrix_end p hp scalar.0) close.1 in (
          omega (arith, most (eqb p 5) 9),
          rw (← (matrix_text_lem c r p hc columns.0 hr rows.0 hp scalar.0))
              (and (eq-eqb _ _ first) (and a (and b (and (eq-eqb _ _ (columns.1 hc)) (and times (and (eq-eqb _ _ (rows.1 hr)) (and less (stands_both (spelled (kind_at p)) (bytes ">") t 7 (scalar.1 one) last)))))))),
        )

    matrix_given : Given (matrix_by t c r p)
    matrix_given = chosen Given (matrix_tests t c r p) (matrix_place c r p) 0 matrix_spelled (λ z. absurd (omega arith))

  scalar_given : (p : ℕ) → Scalars t 0 p → Given p
  scalar_given p scalar h = (omega arith, scalar.1 h)

  given : Given (type_from t)
  unfolding type_from
  given =
      chosen Given (eqb (get_or t 0 0) (byte "v")) (vector_from t) _
      (λ e. vector_given _ _ (eqb-true _ _ e) (size_right (get_or t 3 0)) (scalar_right t 5))
      (chosen Given (eqb (get_or t 0 0) (byte "m")) (matrix_from t) _
      (λ e. matrix_given _ _ _ (eqb-true _ _ e) (size_right (get_or t 3 0)) (size_right (get_or t 5 0)) (scalar_right t 7))
      (scalar_given _ (scalar_right t 0)))

  pub sound : 0 < type_from t → (type_from t < 39) × (take (length (spelled (kind_at (type_from t)))) t ≡ spelled (kind_at (type_from t)))
  sound h =
      let k = kind_at (type_from t) in
      ((given h).0, stands_take (spelled k) t 0 (each (λ l. every (λ x. ltb 0 x) (spelled l)) refl k) (given h).1)

nothing : (s : List ℕ) → length s ≡ 0 → kind_of s ≡ Empty
unfolding kind_of first_spelled same_bytes
nothing [] e = refl
nothing (x ∷ s) e = absurd (omega arith)

-- ---- a text that is a type's spelling and no more

module _ (s : List ℕ) where
  -- whose spelling is as long as the text is the type that it spells
  pub type_right : length (spelled (kind_at (type_from s))) ≡ length s → type_from s ≡ place (kind_of s)
  unfolding kind_at
  type_right e = by (type_from s) refl
    where
      by : (p : ℕ) → type_from s ≡ p → type_from s ≡ place (kind_of s)
      by zero z =
          let n : length s ≡ 0 = sym e ∙ rw z in
          z ∙ rw (nothing s n)
      by (suc q) z =
          let r = sound s (omega arith) in
          let k = kind_at (type_from s) in
          let w : s ≡ spelled k = sym (take_all (length (spelled k)) s (omega arith)) ∙ r.1 in
          sym (own_place (type_from s) r.0) ∙ ap place (sym (kind_spelled k) ∙ ap kind_of (sym w))

  pub type_wrong : (length (spelled (kind_at (type_from s))) ≡ length s → ⊥) → 0 ≡ place (kind_of s)
  type_wrong h = ⊎_elim (λ e. rw e) (λ e. by (is_type (kind_of s)) refl e) (none_or_spelled s)
    where
      by : (on : Bool) → is_type (kind_of s) ≡ on → s ≡ spelled (kind_of s) → 0 ≡ place (kind_of s)
      by true t e =
          let k = kind_of s in
          let f : type_from s ≡ place k = ap type_from (e ∙ sym (append-nil (spelled k))) ∙ complete k [] t in
          absurd (h (rw (f, there k) (ap length (sym e))))
      by false t e = let z = eqb-true (place (kind_of s)) 0 (not-false _ (typed (kind_of s) ∙ t)) in sym z
