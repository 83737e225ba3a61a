-- Writes compose: one write after another is one write of both texts, by the laws of `take`, `drop` and `++`. A write that has room is made. What an answer in lent memory says by its refusal and its room. Assumes nothing.
use Prim.Native.Nat.{ℕ, suc, ◌+◌, ◌≤◌, ◌<◌}
use mathlib.Core.Bool.{true, false, cond}
use mathlib.Core.List.{List, [], ◌∷◌, ◌++◌, append_assoc, append-nil}
use mathlib.Core.Path.{◌≡◌, refl, ap, sym, ◌∙◌}
use native.Mathlib.Nat.{add_assoc, add-zero}
use native.Mathlib.Numerals.{add-one}
use native.Mathlib.Omega.{arith}
use lib.Dec.{ltb, eqb}
use borrow.Author.Tests.{le-leb, lt-ltb, le-ltb, ne_eqb}
use lib.ListN.{length, take, drop, set, get_or, length-append, length-drop, take-append-drop}
use lib.Seq.{drop-cons, take_at, drop-append-add, drop-drop, length-take-le, set_split, append_snoc}
use borrow.Rule.Slice.PartMut.{put_mid}
use Rattle.buffers.specs.Memory.{put, fits}

module _ (o : List ℕ) (at : ℕ) (xs : List ℕ) (h : at + length xs ≤ length o) where
  head_length : length (take at o ++ xs) ≡ at + length xs
  head_length = length-append (take at o) xs ∙ ap (λ (k : ℕ). k + length xs) (length-take-le at o (omega (arith, h)))

  pub put_length : length (put o at xs) ≡ length o
  unfolding put
  put_length = rw (length-append, head_length, length-drop) (omega (arith, h))

  past : (ys : List ℕ) → drop (at + length xs + length ys) (take at o ++ xs ++ drop (at + length xs) o) ≡ drop (at + length xs + length ys) o
  past ys =
      ap (λ (k : ℕ). drop (k + length ys) (take at o ++ xs ++ drop (at + length xs) o)) (sym head_length)
      ∙ drop-append-add (take at o ++ xs) (drop (at + length xs) o) (length ys)
      ∙ drop-drop (length ys) (at + length xs) o

  pub put_put : (ys : List ℕ) → put (put o at xs) (at + length xs) ys ≡ put o at (xs ++ ys)
  unfolding put
  put_put ys =
      rw (take_at (take at o ++ xs) (drop (at + length xs) o) (at + length xs) head_length, past ys)
      (ap (λ (l : List ℕ). l ++ drop (at + length xs + length ys) o) (append_assoc (take at o) xs ys)
      ∙ ap (λ (k : ℕ). take at o ++ (xs ++ ys) ++ drop k o) (add_assoc at (length xs) (length ys) ∙ ap (λ (k : ℕ). at + k) (sym (length-append xs ys))))

pub put_set : (o : List ℕ) (at b : ℕ) → at < length o → set o at b ≡ put o at (b ∷ [])
unfolding put
put_set o at b h = set_split o at b h ∙ rw (append_snoc, add-one)

-- a write after a write, as a caller has them
pub then : (o : List ℕ) {o' o'' : List ℕ} (at : ℕ) {a : ℕ} (xs ys : List ℕ) → at + length xs ≤ length o
    → o' ≡ put o at xs → a ≡ at + length xs → o'' ≡ put o' a ys → o'' ≡ put o at (xs ++ ys)
then o at xs ys h e ea e2 = e2 ∙ rw (e, ea) (put_put o at xs h ys)

-- what is copied into a part of its length, as the library has it
pub put_part : (o : List ℕ) (at n : ℕ) (xs : List ℕ) → n ≡ length xs → put_mid at n o xs ≡ put o at xs
unfolding put
put_part o at n xs e = rw (e, drop-drop (length xs) at o) (sym (append_assoc (take at o) xs (drop (at + length xs) o)))

pub put_nil : (o : List ℕ) (at : ℕ) → put o at [] ≡ o
unfolding put
put_nil o at = rw (append-nil, add-zero) (take-append-drop at o)

-- one entry of a write
pub put_cons : (o : List ℕ) (at x : ℕ) (l : List ℕ) → at < length o → put o at (x ∷ l) ≡ put (set o at x) (at + 1) l
put_cons o at x l h = rw (put_set o at x h) (sym (put_put o at (x ∷ []) (omega arith) l))

-- one entry of a part of a list that is copied
pub put_drop : (o : List ℕ) (at : ℕ) (b : List ℕ) (i : ℕ) → at + i < length o → i < length b
    → put o (at + i) (drop i b) ≡ put (set o (at + i) (get_or b i 0)) (at + (i + 1)) (drop (i + 1) b)
put_drop o at b i h k = rw (drop-cons b i 0 k, ← add_assoc at i 1, add-one i) (put_cons o (at + i) (get_or b i 0) (drop (suc i) b) h)

-- a write that is made where there is room, and not where there is none
module _ (o : List ℕ) (at : ℕ) (xs : List ℕ) where
  pub written : {o' : List ℕ} {r : ℕ} → fits o at xs ≡ true → r ≡ at + length xs → o' ≡ put o at xs
      → (r ≡ cond (fits o at xs) (at + length xs) at) × (o' ≡ cond (fits o at xs) (put o at xs) o)
  written t er eo = rw t (er, eo)

  pub not_written : fits o at xs ≡ false → (at ≡ cond (fits o at xs) (at + length xs) at) × (o ≡ cond (fits o at xs) (put o at xs) o)
  not_written t = rw t (refl, refl)

-- what the next place and the memory are where a write is made if it has room
abbrev pub Tried : List ℕ → ℕ → List ℕ → ℕ → List ℕ → Type 0
Tried o at xs r o' = (r ≡ cond (fits o at xs) (at + length xs) at) × (o' ≡ cond (fits o at xs) (put o at xs) o)

abbrev pub Made : List ℕ → ℕ → List ℕ → ℕ → List ℕ → Type 0
Made o at xs r o' = (r ≡ at + length xs) × (o' ≡ put o at xs)

pub made : (o : List ℕ) (at : ℕ) (xs : List ℕ) {r : ℕ} {o' : List ℕ} → at + length xs ≤ length o → Tried o at xs r o' → Made o at xs r o'
made o at xs h t = rw (le-leb (at + length xs) (length o) h) at t

pub both_made : (o : List ℕ) (at : ℕ) (xs ys : List ℕ) {r s : ℕ} {o' o'' : List ℕ} → at + length (xs ++ ys) ≤ length o → Made o at xs r o' → Made o' r ys s o'' → Made o at (xs ++ ys) s o''
both_made o at xs ys h (a, b) (e, f) = (omega (arith, a, e, length-append xs ys), then o at xs ys (omega (arith, h, length-append xs ys)) b a f)

-- the second write has room where both have
pub room_left : (o : List ℕ) (at : ℕ) (xs ys : List ℕ) {r : ℕ} {o' : List ℕ} → at + length (xs ++ ys) ≤ length o → Made o at xs r o' → r + length ys ≤ length o'
room_left o at xs ys h (a, b) = omega (arith, a, h, ap length b, put_length o at xs (omega (arith, h, length-append xs ys)), length-append xs ys)

-- ---- an answer in lent memory: what is told and written there, by the refusal and by what the answer takes of the room

abbrev pub Given : ℕ → ℕ → ℕ → List ℕ → ℕ → List ℕ → Type 0
Given room takes refusal answer r xs =
    let told = cond (eqb refusal 0) (cond (ltb room takes) 8 0) refusal in (told ≡ r) × (cond (eqb told 0) answer [] ≡ xs)

module _ (room takes refusal : ℕ) (answer : List ℕ) where
  pub given_refused : (refusal ≡ 0 → ⊥) → Given room takes refusal answer refusal []
  given_refused h = (rw (ne_eqb refusal 0 h), rw (ne_eqb refusal 0 h, ne_eqb refusal 0 h))

  pub given_short : refusal ≡ 0 → room < takes → Given room takes refusal answer 8 []
  given_short e h = (rw (e, lt-ltb room takes h), rw (e, lt-ltb room takes h))

  pub given_room : refusal ≡ 0 → takes ≤ room → Given room takes refusal answer 0 answer
  given_room e h = (rw (e, le-ltb room takes h), rw (e, le-ltb room takes h))
