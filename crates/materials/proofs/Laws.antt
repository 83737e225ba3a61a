-- The laws of specs/Laws: of calls, from what `map` does to `++` and to an entry; of words, by induction on the calls, each of 54 words and its answer of 36. Assumes nothing.
use Prim.Native.Nat.{ℕ, zero, suc, ◌+◌, ◌*◌, ◌≤◌, ◌<◌}
use mathlib.Core.List.{List, [], ◌∷◌, ◌++◌, append_assoc}
use mathlib.Core.Path.{◌≡◌, refl, sym, ◌∙◌}
use native.Mathlib.Nat.{zero-add, suc-add}
use native.Mathlib.Omega.{arith}
use borrow.Author.Tests.{le-ltb, ltb-true}
use lib.Dec.{ltb}
use lib.ListN.{length, take, drop, get_or, length-append, length-drop}
use lib.Seq.{take_at, drop_at, drop-drop, take-append-le, drop-append-le, drop-append-add}
use Rattle.readings.specs.declared.Reading.{Reading}
use Rattle.values.specs.Value.{every}
use Rattle.values.proofs.Bools.{both}
use Rattle.calls.specs.declared.Call.{Call}
use Rattle.calls.specs.Words.{call_of}
use Rattle.builtins.specs.declared.Answer.{Answer}
use Rattle.builtins.specs.Fold.{fold_in}
use Rattle.materials.specs.Materials.{folded_all, results_of}
use Rattle.materials.specs.Words.{call_count, first_calls, answer_words, joined}
use Rattle.materials.specs.Laws.{Joins, JoinsInPlace, AnyOrder, AnswerAt, WordsJoin}
use Rattle.materials.proofs.One.{answer_36}

pub result_count : (r : Reading) (calls : List Call) → length (folded_all r calls) ≡ length calls
result_count r [] = refl
result_count r (c ∷ calls) = rw (result_count r calls)

-- result k is what call k gives
pub result_at : (r : Reading) (calls : List Call) (k : ℕ) (c : Call) (a : Answer) → k < length calls → get_or (folded_all r calls) k a ≡ fold_in r (get_or calls k c)
result_at r [] k c a h = absurd (omega arith)
result_at r (d ∷ calls) zero c a h = refl
result_at r (d ∷ calls) (suc k) c a h = result_at r calls k c a (omega arith)

pub joins : (r : Reading) → Joins r
joins r [] b = refl
joins r (c ∷ a) b = rw (joins r a b)

pub in_room : (r : Reading) (calls : List Call) (found : List Answer) → length calls ≤ length found → results_of r calls found ≡ folded_all r calls ++ drop (length calls) found
unfolding results_of
in_room r calls found h = rw (le-ltb (length found) (length calls) h)

pub joins_in_place : (r : Reading) → JoinsInPlace r
joins_in_place r a b found h =
    let sizes = length-append a b in
    let first = in_room r a found (omega arith) in
    let left : drop (length a) (results_of r a found) ≡ drop (length a) found = rw (first, drop_at (folded_all r a) (drop (length a) found) (length a) (result_count r a)) in
    let second = in_room r b (drop (length a) found) (omega (arith, length-drop (length a) found)) in
    in_room r (a ++ b) found h
    ∙ rw (left, first, take_at (folded_all r a) (drop (length a) found) (length a) (result_count r a), second, joins r a b, sizes, drop-drop (length b) (length a) found) (append_assoc (folded_all r a) (folded_all r b) (drop (length a + length b) found))

pub any_order : (r : Reading) → AnyOrder r
any_order r calls [] c a t = refl
any_order r calls (i ∷ places) c a t =
    let h = both (ltb i (length calls)) (every (λ j. ltb j (length calls)) places) t in
    rw (result_at r calls i c a (ltb-true i (length calls) h.0), any_order r calls places c a h.1)

-- ---- of words

module _ (r : Reading) where
  answer_from : (n k : ℕ) (w : List ℕ) → k < n → take 36 (drop (36 * k) (joined (folded_all r (first_calls n w)))) ≡ answer_words (fold_in r (call_of (take 54 (drop (54 * k) w))))
  unfolding first_calls joined
  answer_from zero k w h = absurd (omega arith)
  answer_from (suc n) zero w h = take_at (answer_words (fold_in r (call_of (take 54 w)))) _ 36 (answer_36 r (take 54 w))
  answer_from (suc n) (suc k) w h =
      let first = answer_words (fold_in r (call_of (take 54 w))) in
      let rest = joined (folded_all r (first_calls n (drop 54 w))) in
      let past : 36 * suc k ≡ length first + 36 * k = omega (arith, answer_36 r (take 54 w)) in
      let on : 54 + 54 * k ≡ 54 * suc k = omega arith in
      rw (past, drop-append-add first rest (36 * k)) (answer_from n k (drop 54 w) (omega arith) ∙ rw (drop-drop (54 * k) 54 w, on))

  pub answer_at_lem : AnswerAt r
  answer_at_lem w k h = answer_from (call_count (length w)) k w h

  first_calls_lem : (n m : ℕ) (a b : List ℕ) → length a ≡ 54 * n → joined (folded_all r (first_calls (n + m) (a ++ b))) ≡ joined (folded_all r (first_calls n a)) ++ joined (folded_all r (first_calls m b))
  unfolding first_calls joined
  first_calls_lem zero m [] b e = rw zero-add
  first_calls_lem zero m (x ∷ a) b e = absurd (omega arith)
  first_calls_lem (suc n) m a b e =
      let h : 54 ≤ length a = omega arith in
      rw (suc-add n m, take-append-le 54 a b h, drop-append-le 54 a b h, first_calls_lem n m (drop 54 a) b (omega (arith, length-drop 54 a)))
      (sym (append_assoc (answer_words (fold_in r (call_of (take 54 a)))) (joined (folded_all r (first_calls n (drop 54 a)))) (joined (folded_all r (first_calls m b)))))

  pub words_join : WordsJoin r
  words_join a b n e =
      let whole : call_count (length a) ≡ n = omega arith in
      let both : call_count (length (a ++ b)) ≡ n + call_count (length b) = omega (arith, length-append a b) in
      rw (both, whole) (first_calls_lem n (call_count (length b)) a b e)
